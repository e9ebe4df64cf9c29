use Rattle.std.proofs.Common.{Bool, Decides, sym, subst, arith}
use Rattle.cost.specs.OctileLaws.{few}
use Rattle.cost.specs.Roots.{LessWorth}
use Rattle.cost.proofs.Rooting.{less_worth}
use Rattle.cost.proofs.octile.Octile.is_worth_less.Goals as goal

pub returns : goal.returns
returns c =
    let x = c.args.self in
    let y = c.args.other in
    let e = c.is_less.ensures in
    record {
      by_squares = e;
      by_root =
          subst (λ (r : Bool). Decides r (LessWorth x.straight x.diagonal y.straight y.diagonal)) (sym e)
          (less_worth x.straight x.diagonal y.straight y.diagonal (omega (arith, few x)) (omega (arith, few y)));
    }
