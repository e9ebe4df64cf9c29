use Rattle.std.proofs.Common.{suc, subst, arith}
use Rattle.std.proofs.lemmas.Grind.{common_steps}
use Rattle.routing.specs.Placed.{Near}
use Rattle.routing.proofs.layout.DividedBook.lay_chain.Goals as goal

pub lay-requires : goal.lay-requires
lay-requires g c =
    let near = subst Near c.in-Some.ensures.cases.0 c.requires in
    record { ends = (c.loop-to.invariant.near, near (suc c.loop-to.to-index) (omega arith)) }

pub loop-to-preserved : goal.loop-to-preserved
loop-to-preserved g c =
    let near = subst Near c.in-Some.ensures.cases.0 c.requires in
    record {
      left = grind (arith, common_steps, c.loop-to.invariant.left);
      near = near (suc c.loop-to.to-index) (omega arith);
    }
