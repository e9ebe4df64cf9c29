use Rattle.std.proofs.Common.{ℕ, ◌≤◌}
use Rattle.hierarchy.specs.Lands.{land_of}
use Rattle.levelling.specs.Meaning.{meaning}
use Rattle.levelling.proofs.Going.{RoundsLeft}
use Rattle.levelling.proofs.rounds.level.Given as goal

abbrev pub invariant-loop-lower : goal.invariant-loop-lower
invariant-loop-lower g l =
    let k = g.G.C.Cost in
    RoundsLeft (land_of k g.G.Ground l.ground) (g.R.Rule.pairs l.rule) l.lower-end l.lower (meaning k l.book)
    × ((x : ℕ) → (meaning k l.book).level x ≤ l.lower)
