-- The levels of a book, and a book with other levels.
--   level_in     the level of a place, as a book holds it
--   with_levels  the levels are as given, and nothing else differs
use Rattle.std.specs.Prelude.{ℕ, slice_index}
use Rattle.hierarchy.specs.Kinds.{Kind}
use Rattle.hierarchy.specs.Books.{Book}
use Rattle.levelling.specs.declared.book.Book.{Book as Held}

abbrev pub level_in : {C : Type 0} → Held C → ℕ → ℕ
level_in book x = slice_index book.levels x

abbrev pub with_levels : {K : Kind} → (ℕ → ℕ) → Book K → Book K
with_levels level book = record { level = level; kept = book.kept; shortcuts = book.shortcuts }
