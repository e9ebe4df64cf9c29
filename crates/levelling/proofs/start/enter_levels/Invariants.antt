use Rattle.levelling.specs.Meaning.{meaning}
use Rattle.levelling.specs.Begun.{LevelsEntered}
use Rattle.levelling.proofs.start.enter_levels.Given as goal

abbrev pub invariant-loop-place : goal.invariant-loop-place
invariant-loop-place g l = LevelsEntered l.place (g.G.Ground.shuts l.ground) (meaning g.G.C.Cost l.initial.book) (meaning g.G.C.Cost l.book)
