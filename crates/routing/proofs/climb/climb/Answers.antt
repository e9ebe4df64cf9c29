use Rattle.std.proofs.Common.{ℕ, subst, arith}
use native.Mathlib.Nat.{min-le_right}
use Rattle.levelling.specs.Meaning.{meaning}
use Rattle.routing.specs.Climbed.{MarksClimbs}
use Rattle.routing.proofs.Climbing.{climbing_begun, climbing_more, climbing_done}
use Rattle.routing.proofs.climb.climb.Goals as goal

pub loop-level-init : goal.loop-level-init
loop-level-init g c =
    climbing_begun c.min.result (meaning g.C.Cost c.args.book.now) c.args.from c.only-marks.result
    (omega (arith, min-le_right c.args.size 256, c.min.ensures)) c.only-marks.ensures

pub loop-level-preserved : goal.loop-level-preserved
loop-level-preserved g c =
    climbing_more c.min.result (meaning g.C.Cost c.args.book.now) c.args.from c.loop-level.level c.loop-level.marks
    c.climb_from_level.new.marks c.loop-level.invariant c.climb_from_level.ensures

pub returns : goal.returns
returns g c =
    let book = meaning g.C.Cost c.args.book.now in
    subst (λ (n : ℕ). MarksClimbs n book c.args.from c.loop-level.marks) c.min.ensures
    (climbing_done c.min.result book c.args.from c.loop-level.level c.loop-level.marks
    (λ x h. omega (arith, c.highest_level-level-end.ensures x h)) c.loop-level.invariant)
