-- A number of levels as it is chosen.
--   levels_in  how many they are
--   Chosen     the number is accepted, or refused as defined
use Rattle.std.specs.Prelude.{◌≡◌, ℕ, Some, None, Ok, Err, Result}
use Rattle.ground.specs.declared.refusal.Refusal.{Refusal}
use Rattle.hierarchy.specs.Answers.{choose_refusal}
use Rattle.levelling.specs.declared.levels.Levels.{Levels}

abbrev pub levels_in : Levels → ℕ
levels_in l = l.number

abbrev pub Chosen : ℕ → Result Levels Refusal → Type 0
Chosen n (Ok l) = (choose_refusal n ≡ None) × (levels_in l ≡ n)
Chosen n (Err r) = choose_refusal n ≡ Some r
