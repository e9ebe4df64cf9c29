use Rattle.std.proofs.Common.{◌≡◌, ap, subst, arith}
use Rattle.ground.specs.Marks.{size_in}
use Rattle.ground.specs.Refusals.{outcome}
use Rattle.trails.specs.Trails.{trail_chart, ByRecords}
use Rattle.trails.proofs.ListChecks.{few_places}
use Rattle.trails.proofs.RecordedWays.{by_records}
use Rattle.trails.proofs.TrailList.new.Goals as goal
use Rattle.trails.proofs.TrailList.new.Goals.{in-Ok, in-Err}

pub returns-clause-accepted : goal.returns-clause-accepted
returns-clause-accepted g c e =
    let way = g.C.Cost.way in
    let n = c.args.size in
    let rs = c.args.records.now in
    let few = few_places way n rs e in
    let kept : c.match-check_list.accepted ≡ n = elim c.match-check_list.branch [ in-Ok w ↦ w.accepted-is | in-Err w ↦ cc (ap outcome e, w.in-Err.ensures) ] in
    let all : n ≡ size_in c.all_free.result = omega arith in
    subst (λ k. ByRecords rs (trail_chart way k rs)) all (by_records way n rs e)
