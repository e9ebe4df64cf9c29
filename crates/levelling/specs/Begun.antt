-- How a book is begun.
--   Rewritten      only the ways kept differ, and they are as given
--   RowWritten     of the ways from a those to the first n places are as f makes them, and nothing else differs
--   RowsWritten    the same of the ways from the first i places
--   LevelsEntered  the first n places have level 0 where they are shut and 1 where they are free, and nothing else differs
--   enters         a way that there is comes to be kept
use Rattle.std.specs.Prelude.{◌≡◌, ℕ, Bool, cond, ◌&&◌, Option, ◌==◌, nat_lt}
use Rattle.ground.specs.Earliest.{or_else}
use Rattle.hierarchy.specs.Kinds.{Kind, Price}
use Rattle.hierarchy.specs.Books.{Book}

module _ {K : Kind} where
  pub record Rewritten (kept : ℕ → ℕ → Price K) (old new : Book K) : Type 0 where
    pub ways : (x y : ℕ) → new.kept x y ≡ kept x y
    pub levels : new.level ≡ old.level
    pub shortcuts : new.shortcuts ≡ old.shortcuts

  abbrev pub RowWritten : (ℕ → Price K → Price K) → ℕ → ℕ → Book K → Book K → Type 0
  RowWritten f n a old = Rewritten (λ x y. cond (x == a && nat_lt y n) (f y (old.kept x y)) (old.kept x y)) old

  abbrev pub RowsWritten : (ℕ → ℕ → Price K → Price K) → ℕ → ℕ → Book K → Book K → Type 0
  RowsWritten f i n old = Rewritten (λ x y. cond (nat_lt x i && nat_lt y n) (f x y (old.kept x y)) (old.kept x y)) old

  pub record LevelsEntered (n : ℕ) (shut : ℕ → Bool) (old new : Book K) : Type 0 where
    pub levels : (x : ℕ) → new.level x ≡ cond (nat_lt x n) (cond (shut x) 0 1) (old.level x)
    pub ways : new.kept ≡ old.kept
    pub shortcuts : new.shortcuts ≡ old.shortcuts

abbrev pub enters : {C : Type 0} → (ℕ → ℕ → Option C) → ℕ → ℕ → Option C → Option C
enters way a b = or_else (way a b)
