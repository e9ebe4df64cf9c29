use Rattle.std.proofs.Common.{◌≡◌, ◌-◌}
use Rattle.hierarchy.specs.Kinds.{kind_of}
use Rattle.hierarchy.specs.Searches.{tally}
use Rattle.hierarchy.proofs.SearchSteps.{Sound}
use Rattle.frontier.specs.Searching.{size, front}
use Rattle.levelling.proofs.reach.reach_in.Given as goal

abbrev pub invariant-loop-place : goal.invariant-loop-place
invariant-loop-place g l =
    let k = g.S.C.Cost in
    record {
      same_reference : l.frontier.table.ghost_name ≡ l.initial.frontier.table.ghost_name;
      same_size : size l.frontier ≡ size l.initial.frontier;
      sound : Sound {K = kind_of k} (g.S.Steps.step l.graph) (size l.frontier) l.start (front k l.frontier);
    }

abbrev pub decreases-loop-place : goal.decreases-loop-place
decreases-loop-place g l = size l.frontier - tally (front g.S.C.Cost l.frontier) (size l.frontier)
