-- The links that lead to marked places.
--   narrowed  the link between two of the first n places, if the second is marked
--   marked    whether a place is marked: one of two rows marks it, it is an end, or it stands at the top level
use Rattle.std.specs.Prelude.{ℕ, Bool, false, cond, ◌||◌, List, None, ◌==◌, slice_index_or}
use Rattle.hierarchy.specs.Kinds.{Kind, Price}
use Rattle.hierarchy.specs.Books.{Book, link_among}

abbrev pub narrowed : {K : Kind} → ℕ → Book K → List Bool → ℕ → ℕ → Price K
narrowed n book marks v x = cond (slice_index_or marks x false) (link_among n book v x) None

abbrev pub marked : {K : Kind} → Book K → ℕ → ℕ → ℕ → List Bool → List Bool → ℕ → Bool
marked book top a b first second x =
    (slice_index_or first x false || slice_index_or second x false) || ((x == a || x == b) || (book.level x == top))
