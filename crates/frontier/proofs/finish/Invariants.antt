use Rattle.std.proofs.Common.{◌≡◌, Bool, List}
use Rattle.hierarchy.specs.Searches.{table_after}
use Rattle.frontier.specs.Fronts.{front_of}
use Rattle.frontier.proofs.finish.Given as goal

abbrev pub invariant-loop-place : goal.invariant-loop-place
invariant-loop-place g l =
    (waiting : List Bool) → l.table ≡ table_after (front_of g.C.Cost l.size l.initial.table waiting) l.place l.initial.table
