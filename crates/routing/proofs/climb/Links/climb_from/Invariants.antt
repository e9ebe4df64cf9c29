use Rattle.levelling.specs.Meaning.{meaning}
use Rattle.routing.proofs.Marking.{MarksBelow}
use Rattle.routing.proofs.climb.Links.climb_from.Given as goal

abbrev pub invariant-loop-other : goal.invariant-loop-other
invariant-loop-other g l = MarksBelow l.self.size (meaning g.C.Cost l.self.book.now) l.place l.other l.initial.marks l.marks
