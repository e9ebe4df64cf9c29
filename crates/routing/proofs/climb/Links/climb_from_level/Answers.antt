use Rattle.std.proofs.Common.{arith}
use Rattle.levelling.specs.Meaning.{meaning}
use Rattle.routing.proofs.Marking.{level_skip, level_more}
use Rattle.routing.proofs.climb.Links.climb_from_level.Goals as goal
use Rattle.routing.proofs.climb.Links.climb_from_level.Goals.{then-marks-place+then-level, else-marks-place, else-marks-place-via-then-marks-place+else-level, else-marks-place-via-else-marks-place}

pub loop-place-preserved : goal.loop-place-preserved
loop-place-preserved g c =
    let book = meaning g.C.Cost c.args.self.now.book.now in
    let skip = level_skip c.args.self.now.size book c.args.level c.loop-place.place c.args.marks.now c.loop-place.marks in
    elim c.if-marks-place.branch [
      | then-marks-place+then-level w ↦ rw w.marks-is
          (level_more c.args.self.now.size book c.args.level c.loop-place.place c.args.marks.now c.loop-place.marks w.climb_from.new.marks
          (omega arith) w.if-marks-place.true c.loop-place.invariant w.climb_from.ensures)
      | else-marks-place w ↦ rw w.marks-is (elim w.else-marks-place.branch [
        | else-marks-place-via-then-marks-place+else-level v ↦ skip (λ e. absurd (v.if-level.false (omega arith))) c.loop-place.invariant
        | else-marks-place-via-else-marks-place v ↦ skip (λ e. v.if-marks-place.false) c.loop-place.invariant
      ])
    ]
