use Rattle.std.proofs.Common.{[], get_or}
use Rattle.levelling.specs.Meaning.{meaning}
use Rattle.levelling.specs.Begun.{RowsWritten}
use Rattle.levelling.specs.Beaten.{leaves}
use Rattle.levelling.proofs.aside.set_beaten_aside.Given as goal

abbrev pub invariant-loop-from : goal.invariant-loop-from
invariant-loop-from g l = RowsWritten (λ a. leaves (get_or l.beaten a [])) l.from l.size (meaning g.C.Cost l.initial.book) (meaning g.C.Cost l.book)
