use Rattle.std.proofs.Common.{◌≡◌, ◌-◌}
use Rattle.hierarchy.specs.Kinds.{kind_of}
use Rattle.hierarchy.specs.Searches.{search_on, tally}
use Rattle.frontier.specs.Searching.{size, front}
use Rattle.routing.proofs.Turns.{Left}
use Rattle.routing.proofs.find.settle_until.Given as goal

abbrev pub invariant-loop-frontier : goal.invariant-loop-frontier
invariant-loop-frontier g l =
    let k = g.S.C.Cost in
    let step = g.S.Steps.step l.graph in
    let n = size l.initial.frontier in
    record {
      same_reference : l.frontier.table.ghost_name ≡ l.initial.frontier.table.ghost_name;
      same_size : size l.frontier ≡ n;
      left : Left {K = kind_of k} step n l.goal (front k l.frontier) (search_on step n l.goal n (front k l.initial.frontier));
    }

abbrev pub decreases-loop-frontier : goal.decreases-loop-frontier
decreases-loop-frontier g l = size l.frontier - tally (front g.S.C.Cost l.frontier) (size l.frontier)
