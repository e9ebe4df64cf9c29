use Rattle.std.proofs.Common.{arith}
use Rattle.frontier.proofs.Nearing.{nearest_more}
use Rattle.frontier.proofs.nearest.Goals as goal

pub loop-place-preserved : goal.loop-place-preserved
loop-place-preserved g c =
    let inv = c.loop-place.invariant in
    let step = c.nearer-best.ensures in (
      nearest_more g.C.Cost c.args.size c.loop-place.place c.args.table.now c.args.waiting.now (omega arith)
          c.loop-place.best c.nearer-best.result inv.1 inv.0 step.is,
      step.waits,
    )
