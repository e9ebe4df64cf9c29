use Rattle.std.proofs.Common.{◌≡◌, suc, ◌+◌, ◌-◌, length, arith}
use Rattle.std.proofs.lemmas.List.{length-set}
use Rattle.routing.proofs.Chained.{steps-over, start-reached, step_back}
use Rattle.routing.proofs.find.chain_back.Goals as goal

pub loop-step-preserved : goal.loop-step-preserved
loop-step-preserved g c =
    let places = c.loop-step.chain.places in
    let first = c.loop-step.chain.first in
    let inv = c.loop-step.invariant in
    let back : first - 1 + 1 ≡ first = omega arith in
    let room : length places ≡ 257 = inv.2 in (
      step_back g.C.Cost c.args.table.now c.args.start places _ first (omega arith) (c.args.size - c.loop-step._step) _ (omega arith)
          c.if-place-start.false inv.0 (first - 1) _ back c.predecessor.ensures,
      omega arith,
      simp length-set room,
    )

pub returns-then-place-start : goal.returns-then-place-start
returns-then-place-start g c =
    let inv = c.loop-step.invariant in
    let left = c.args.size - c.loop-step._step in
    let more : left ≡ suc (left - 1) = omega arith in
    record {
      places = start-reached g.C.Cost c.args.table.now c.args.start _ _ c.loop-step.chain.first (omega arith) left (left - 1) more c.if-place-start.true inv.0;
      first = omega arith;
    }

pub returns : goal.returns
returns g c =
    let inv = c.loop-step.invariant in
    record {
      places = steps-over g.C.Cost c.args.table.now c.args.start _ _ c.loop-step.chain.first (omega arith) _ (omega arith) inv.0;
      first = omega arith;
    }
