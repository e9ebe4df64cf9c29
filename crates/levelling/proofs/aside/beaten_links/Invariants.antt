use Rattle.std.proofs.Common.{◌≡◌, ℕ, ◌<◌, [], length, get_or}
use Rattle.levelling.specs.Meaning.{meaning}
use Rattle.levelling.specs.Beaten.{MarksBeaten}
use Rattle.levelling.proofs.aside.beaten_links.Given as goal

abbrev pub invariant-loop-from : goal.invariant-loop-from
invariant-loop-from g l = (length l.beaten ≡ 256) × ((a : ℕ) → a < l.from → MarksBeaten l.links.size (meaning g.C.Cost l.links.book.now) a (get_or l.beaten a []))
