use Rattle.std.proofs.Common.{◌≡◌, false}
use Rattle.frontier.specs.Fronts.{blank, renewed}
use Rattle.frontier.proofs.clear.Given as goal

abbrev pub invariant-loop-place : goal.invariant-loop-place
invariant-loop-place g l =
    (l.table ≡ renewed l.place (λ _. blank g.C.Cost) l.initial.table) × (l.waiting ≡ renewed l.place (λ _. false) l.initial.waiting)
