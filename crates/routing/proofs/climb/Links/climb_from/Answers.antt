use Rattle.std.proofs.Common.{arith}
use Rattle.levelling.specs.Meaning.{meaning}
use Rattle.routing.proofs.Marking.{below_skip, below_mark}
use Rattle.routing.proofs.climb.Links.climb_from.Goals as goal
use Rattle.routing.proofs.climb.Links.climb_from.Goals.{then-goes_up, else-goes_up}

pub loop-other-preserved : goal.loop-other-preserved
loop-other-preserved g c =
    let book = meaning g.C.Cost c.args.self.now.book.now in
    elim c.if-goes_up.branch [
      | then-goes_up w ↦ below_mark c.args.self.now.size book c.args.place c.loop-other.other c.args.marks.now c.loop-other.marks
          c.if-goes_up.marks w.marks-is (omega arith) w.if-goes_up.ensures c.loop-other.invariant
      | else-goes_up w ↦ rw w.marks-is
          (below_skip c.args.self.now.size book c.args.place c.loop-other.other c.args.marks.now c.loop-other.marks
          w.if-goes_up.ensures c.loop-other.invariant)
    ]
