-- What a ground keeps to. Assumes nothing.
--   GroundLaws    what every ground shows of its size, its shut places and its chart
--   OnlyWayCosts  every way of the chart has a way cost
use Rattle.std.specs.Prelude.{◌≡◌, ℕ, ◌≤◌, Bool, true, false, Some, None, Option}

pub record GroundLaws {C : Type 0} (size : ℕ) (shut : ℕ → Bool) (chart : (ℕ → Bool) → ℕ → ℕ → Option C) : Type 0 where
  pub few : size ≤ 256
  -- a place that is not on the ground is not shut
  pub shut-within : (a : ℕ) → size ≤ a → shut a ≡ false
  -- whatever is shut: a way is alike from either end, leads from no place to itself, and has both ends free and on the ground
  pub alike : (s : ℕ → Bool) (a b : ℕ) → chart s a b ≡ chart s b a
  pub apart : (s : ℕ → Bool) (a : ℕ) → chart s a a ≡ None
  pub closed : (s : ℕ → Bool) (a b : ℕ) → s a ≡ true → chart s a b ≡ None
  pub within : (s : ℕ → Bool) (a b : ℕ) → size ≤ a → chart s a b ≡ None

abbrev pub OnlyWayCosts : {C : Type 0} → (C → Bool) → ((ℕ → Bool) → ℕ → ℕ → Option C) → Type 0
OnlyWayCosts {C} way chart = (s : ℕ → Bool) (a b : ℕ) (c : C) → chart s a b ≡ Some c → way c ≡ true
