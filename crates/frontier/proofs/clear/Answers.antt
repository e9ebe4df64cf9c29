use Rattle.std.proofs.Common.{false, set, ap, ◌∙◌, arith}
use Rattle.frontier.specs.Fronts.{blank}
use Rattle.frontier.proofs.Renewals.{renewed_more}
use Rattle.frontier.proofs.clear.Goals as goal

pub loop-place-preserved : goal.loop-place-preserved
loop-place-preserved g c =
    let x = c.loop-place.place in
    let inv = c.loop-place.invariant in (
      (λ i. set (inv.0 i) x (c.blank.ensures i)) ∙ renewed_more (λ _. blank g.C.Cost) c.args.table.now x (omega arith),
      ap (λ w. set w x false) inv.1 ∙ renewed_more (λ _. false) c.args.waiting.now x (omega arith),
    )
