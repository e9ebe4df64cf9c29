-- What levelling keeps to, by any rule and for any number of levels.
--   LevellingKeeps  every book that levelling makes of the land is well levelled
--   NeedIsTested    the pairs that a visit takes are those that need a shortcut
use Rattle.std.specs.Prelude.{◌≡◌, ℕ, ◌≤◌, Bool, true, ◌↔◌}
use Rattle.hierarchy.specs.Kinds.{Kind}
use Rattle.hierarchy.specs.Lands.{Land}
use Rattle.hierarchy.specs.Books.{Book}
use Rattle.hierarchy.specs.Levels.{Needs, is_needed, levelling}
use Rattle.hierarchy.specs.Levelled.{WellLevelled}

abbrev pub LevellingKeeps : {K : Kind} → Land K → Type 0
LevellingKeeps land = (rule : ℕ → ℕ → Bool) (levels : ℕ) → 1 ≤ levels → WellLevelled land rule levels (levelling land rule levels)

abbrev pub NeedIsTested : {K : Kind} → Land K → Type 0
NeedIsTested {K} land = (i : ℕ) (book : Book K) (v : ℕ) (p : ℕ × ℕ) → (is_needed land i book v p ≡ true) ↔ Needs land i book v p
