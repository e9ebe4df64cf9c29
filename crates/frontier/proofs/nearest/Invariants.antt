use Rattle.std.proofs.Common.{◌≡◌}
use Rattle.hierarchy.specs.Searches.{nearest}
use Rattle.frontier.specs.Fronts.{front_of, Waiting}
use Rattle.frontier.proofs.nearest.Given as goal

abbrev pub invariant-loop-place : goal.invariant-loop-place
invariant-loop-place g l =
    (l.best ≡ nearest (front_of g.C.Cost l.size l.table l.waiting) l.place) × Waiting l.place l.waiting l.best
