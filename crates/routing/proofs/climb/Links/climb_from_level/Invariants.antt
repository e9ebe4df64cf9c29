use Rattle.levelling.specs.Meaning.{meaning}
use Rattle.routing.specs.Climbed.{MarksLevel}
use Rattle.routing.proofs.climb.Links.climb_from_level.Given as goal

abbrev pub invariant-loop-place : goal.invariant-loop-place
invariant-loop-place g l = MarksLevel l.self.size (meaning g.C.Cost l.self.book.now) l.level l.place l.initial.marks l.marks
