use Rattle.levelling.specs.Meaning.{meaning}
use Rattle.levelling.specs.Begun.{RowWritten}
use Rattle.levelling.specs.Beaten.{leaves}
use Rattle.levelling.proofs.aside.set_aside_from.Given as goal

abbrev pub invariant-loop-to : goal.invariant-loop-to
invariant-loop-to g l = RowWritten (leaves l.marks) l.to l.from (meaning g.C.Cost l.initial.book) (meaning g.C.Cost l.book)
