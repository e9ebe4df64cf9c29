use Rattle.std.proofs.Common.{arith}
use Rattle.cost.specs.OctileLaws.{few}
use Rattle.cost.proofs.octile.costs.OctileCost.plus.Goals as goal

pub overflow_add-self-2 : goal.overflow_add-self-2
overflow_add-self-2 c = omega (arith, few c.args.self, few c.args.other)
