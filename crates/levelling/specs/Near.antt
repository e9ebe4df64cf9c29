-- Neighbours of a visited place.
--   is_near     a place linked to v of level i or i + 1
--   MarksNear   the marks say of each of the first n places whether it is near
--   by_links    the two links by v, together
--   over_links  the shortcut over v between two places
use Rattle.std.specs.Prelude.{◌≡◌, ℕ, ◌+◌, ◌<◌, Bool, false, ◌&&◌, ◌||◌, List, is_some, ◌==◌, slice_index_or}
use Rattle.std.specs.Option.{unwrap_or}
use Rattle.cost.specs.declared.Cost.{Ghosts as Costs}
use Rattle.hierarchy.specs.declared.Shortcut.{Shortcut}
use Rattle.hierarchy.specs.Kinds.{Kind, kind_of, Price, add}
use Rattle.hierarchy.specs.Books.{Book, link_among}

module _ {K : Kind} (n : ℕ) (book : Book K) where
  abbrev pub is_near : ℕ → ℕ → ℕ → Bool
  is_near i v a = is_some (link_among n book a v) && (book.level a == i || book.level a == i + 1)

  abbrev pub MarksNear : ℕ → ℕ → List Bool → Type 0
  MarksNear i v marks = (x : ℕ) → x < n → slice_index_or marks x false ≡ is_near i v x

  abbrev pub by_links : ℕ → ℕ → ℕ → Price K
  by_links v a b = add K (link_among n book a v) (link_among n book v b)

abbrev pub over_links : {C : Type 0} → (k : Costs C) → ℕ → Book (kind_of k) → ℕ → ℕ → ℕ → Shortcut C
over_links k n book v a b = record { smaller = a; larger = b; middle = v; cost = unwrap_or (by_links n book v a b) k.over }
