use Rattle.std.proofs.Common.{ℕ, ◌<◌, ◌≤◌}
use Rattle.levelling.specs.Meaning.{meaning}
use Rattle.routing.proofs.climb.Links.highest_level.Given as goal

abbrev pub invariant-loop-place : goal.invariant-loop-place
invariant-loop-place g l = (x : ℕ) → x < l.place → (meaning g.C.Cost l.self.book.now).level x ≤ l.highest
