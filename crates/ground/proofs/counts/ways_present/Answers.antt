use Rattle.std.proofs.Common.{arith}
use Rattle.ground.proofs.counts.ways_present.Goals as goal

pub ways_below-requires : goal.ways_below-requires
ways_below-requires g c = omega (arith, c.size.ensures, (g.G.Ground.laws c.args.ground.now).few)
