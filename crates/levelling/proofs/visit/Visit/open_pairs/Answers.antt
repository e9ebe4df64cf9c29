use Rattle.std.proofs.Common.{rules, ◌≡◌, false, arith}
use Rattle.levelling.specs.Meaning.{meaning}
use Rattle.levelling.specs.Needs.{is_open}
use Rattle.levelling.proofs.Filling.{filled}
use Rattle.levelling.proofs.visit.Visit.open_pairs.Goals as goal

pub returns : goal.returns
returns g c x h =
    let self = c.args.self.now in
    filled _ _ (λ y m. m ≡ is_open g.C.Cost self.links.size (meaning g.C.Cost self.links.book.now) self.middle c.args.first c.args.near.now y) (λ i y q called. search rules) _ 256
    c.from_fn.ensures.items x false (omega (arith, self.links.few))
