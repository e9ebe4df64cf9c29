-- Which places are marked by climbing.
--   goes_up      a link from a to x rises
--   MarksFrom    a place is marked after exactly when it was before, or p goes up to it
--   GoesUpTo     a marked place of level l below i goes up to x
--   MarksLevel   a place is marked after exactly when it was before, or one of those goes up to it
--   MarksClimbs  a place below n is marked exactly when the first place climbs to it
use Rattle.std.specs.Prelude.{◌≡◌, ℕ, ◌<◌, Bool, true, false, ◌&&◌, ◌||◌, ◌⊎◌, List, is_some, Decides, nat_lt, slice_index_or}
use Rattle.hierarchy.specs.Kinds.{Kind}
use Rattle.hierarchy.specs.Chains.{Climbs}
use Rattle.hierarchy.specs.Books.{Book, link_among}

module _ {K : Kind} (n : ℕ) (book : Book K) where
  abbrev pub goes_up : ℕ → ℕ → Bool
  goes_up a x = nat_lt (book.level a) (book.level x) && is_some (link_among n book a x)

  abbrev pub MarksFrom : ℕ → List Bool → List Bool → Type 0
  MarksFrom p before after = (x : ℕ) → slice_index_or after x false ≡ (slice_index_or before x false || goes_up p x)

  abbrev pub GoesUpTo : ℕ → ℕ → List Bool → ℕ → Type 0
  GoesUpTo l i marks x = (p : ℕ) × (p < i) × (book.level p ≡ l) × (slice_index_or marks p false ≡ true) × (goes_up p x ≡ true)

  abbrev pub MarksLevel : ℕ → ℕ → List Bool → List Bool → Type 0
  MarksLevel l i before after = (x : ℕ) → Decides (slice_index_or after x false) ((slice_index_or before x false ≡ true) ⊎ GoesUpTo l i before x)

  abbrev pub MarksClimbs : ℕ → List Bool → Type 0
  MarksClimbs a marks = (x : ℕ) → x < n → Decides (slice_index_or marks x false) (Climbs book.level K (link_among n book) a x)
