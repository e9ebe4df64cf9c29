use Rattle.levelling.specs.Meaning.{meaning}
use Rattle.levelling.proofs.Going.{RaisedTo}
use Rattle.levelling.proofs.rounds.Round.raise.Given as goal

abbrev pub invariant-loop-place : goal.invariant-loop-place
invariant-loop-place g l = RaisedTo l.self.lower (meaning g.C.Cost l.initial.book) l.place (meaning g.C.Cost l.book)
