use Rattle.std.proofs.Common.{arith}
use Rattle.ground.proofs.counts.free_places.Goals as goal

pub free_below-requires : goal.free_below-requires
free_below-requires g c = omega (arith, c.size.ensures, (g.G.Ground.laws c.args.ground.now).few)
