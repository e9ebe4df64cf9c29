use Rattle.std.proofs.Common.{◌≡◌, ℕ, ◌<◌, true, false, get_or, is_some}
use Rattle.levelling.specs.Meaning.{meaning}
use Rattle.levelling.specs.Near.{by_links}
use Rattle.levelling.specs.Priced.{at_most}
use Rattle.levelling.proofs.visit.Visit.dearest.Given as goal

abbrev pub invariant-loop-second : goal.invariant-loop-second
invariant-loop-second g l =
    let sum = by_links l.self.links.size (meaning g.C.Cost l.self.links.book.now) l.self.middle l.first in
    (b : ℕ) → b < l.second → get_or l.marks b false ≡ true → is_some (sum b) ≡ true → at_most g.C.Cost (sum b) l.most ≡ true
