use Rattle.levelling.specs.Meaning.{meaning}
use Rattle.levelling.specs.Begun.{enters}
use Rattle.levelling.proofs.Rewriting.{rows_more}
use Rattle.levelling.proofs.start.enter_ways.Goals as goal

pub loop-from-preserved : goal.loop-from-preserved
loop-from-preserved g c =
    let ground = c.args.ground.now in
    let way = g.G.Ground.chart ground (g.G.Ground.shuts ground) in
    rows_more (enters way) (g.G.Ground.size ground) (meaning g.G.C.Cost c.args.book.now) c.loop-from.from _ _ c.loop-from.invariant c.enter_ways_from.ensures
