-- How many places are free and how many ways are present.
--   count        how many numbers below n have a property
--   count_pairs  how many pairs a < b of numbers below n have a property
--   free_count   how many places are free
--   way_count    how many ways are present, each counted once
use Rattle.std.specs.Prelude.{ℕ, zero, suc, ◌+◌, Bool, cond, is_some, Option}
use Rattle.ground.specs.Marks.{free_under}

abbrev pub count : (ℕ → Bool) → ℕ → ℕ
count p zero = 0
count p (suc k) = count p k + cond (p k) 1 0

abbrev pub count_pairs : (ℕ → ℕ → Bool) → ℕ → ℕ
count_pairs p zero = 0
count_pairs p (suc k) = count_pairs p k + count (λ a. p a k) k

abbrev pub free_count : ℕ → (ℕ → Bool) → ℕ
free_count size shut = count (free_under size shut) size

abbrev pub way_count : {C : Type 0} → ℕ → (ℕ → ℕ → Option C) → ℕ
way_count size way = count_pairs (λ a b. is_some (way a b)) size
