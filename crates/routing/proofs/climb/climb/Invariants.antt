use Rattle.levelling.specs.Meaning.{meaning}
use Rattle.routing.proofs.Climbing.{Climbing}
use Rattle.routing.proofs.climb.climb.Given as goal

abbrev pub invariant-loop-level : goal.invariant-loop-level
invariant-loop-level g l = Climbing l.links.size (meaning g.C.Cost l.book) l.from l.level l.marks
