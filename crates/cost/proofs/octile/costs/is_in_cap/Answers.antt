use Rattle.std.proofs.Common.{arith}
use Rattle.std.proofs.lemmas.Bool.Decides.{nat_tests}
use Rattle.cost.specs.Pell.{below-weight}
use Rattle.cost.proofs.octile.costs.is_in_cap.Goals as goal

pub returns-then-diagonal-le-CAP : goal.returns-then-diagonal-le-CAP
returns-then-diagonal-le-CAP c =
    let e = below-weight 16777215 0 c.args.straight c.args.diagonal (omega arith) (omega arith) in grind (arith, nat_tests)
