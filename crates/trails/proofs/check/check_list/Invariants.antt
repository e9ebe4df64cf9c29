use Rattle.trails.proofs.ListChecks.{Checked}
use Rattle.trails.proofs.check.check_list.Given as goal

abbrev pub invariant-loop-at : goal.invariant-loop-at
invariant-loop-at g l = Checked g.C.Cost.way l.size l.records l.at
