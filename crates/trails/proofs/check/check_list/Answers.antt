use Rattle.trails.proofs.ListChecks.{checked_none}
use Rattle.trails.proofs.check.check_list.Goals as goal

pub loop-at-init : goal.loop-at-init
loop-at-init g c = checked_none g.C.Cost.way c.args.size c.args.records.now
