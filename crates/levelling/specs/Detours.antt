-- The steps of a search for arching chains from a that do not pass v, where no place stands above the top.
--   detour_steps  the links from a, and those from places of the top level, that do not lead to v
use Rattle.std.specs.Prelude.{ℕ, cond, not, ◌&&◌, ◌||◌, None, Option, ◌==◌}

abbrev pub detour_steps : {C : Type 0} → (ℕ → ℕ → Option C) → (ℕ → ℕ) → ℕ → ℕ → ℕ → ℕ → ℕ → Option C
detour_steps link level top v a x y = cond (not (y == v) && (x == a || level x == top)) (link x y) None
