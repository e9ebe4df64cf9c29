use Rattle.std.proofs.Common.{◌≡◌}
use Rattle.frontier.specs.Fronts.{renewed}
use Rattle.frontier.proofs.Settling.{records_after, flags_after}
use Rattle.frontier.proofs.settle.Given as goal

abbrev pub invariant-loop-other : goal.invariant-loop-other
invariant-loop-other g l =
    let step = g.S.Steps.step l.graph l.place in
    (l.table ≡ renewed l.other (records_after g.S.C.Cost step l.place l.cost l.initial.table l.initial.waiting) l.initial.table)
    × (l.waiting ≡ renewed l.other (flags_after g.S.C.Cost step l.place l.cost l.initial.table l.initial.waiting) l.initial.waiting)
