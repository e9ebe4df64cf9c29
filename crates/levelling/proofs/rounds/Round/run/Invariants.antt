use Rattle.std.proofs.Common.{◌≡◌, ℕ, ◌+◌, ◌≤◌}
use Rattle.hierarchy.specs.Kinds.{kind_of}
use Rattle.hierarchy.specs.Lands.{Land}
use Rattle.hierarchy.specs.Shortest.{below}
use Rattle.hierarchy.specs.Levels.{visit_each}
use Rattle.levelling.specs.Meaning.{meaning}
use Rattle.levelling.proofs.Going.{VisitsLeft}
use Rattle.levelling.proofs.rounds.Round.run.Given as goal

abbrev pub invariant-loop-place : goal.invariant-loop-place
invariant-loop-place g l =
    let k = g.C.Cost in
    let rule = g.R.Rule.pairs l.self.rule.now in
    ((land : Land (kind_of k)) → land.size ≡ l.self.size → VisitsLeft land rule l.self.lower l.place (meaning k l.book) (visit_each land rule l.self.lower (below land.size) (meaning k l.initial.book)))
    × ((x : ℕ) → (meaning k l.book).level x ≤ l.self.lower + 1)
