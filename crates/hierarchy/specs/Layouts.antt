-- Laying a route out over ways.
--   chain_to  the chain that the predecessors lead back along, from a to x
--   lay_link  a link from x to y as the places that follow x: a way as it is, a shortcut as its two halves from the end where it
--              is entered, each half by earlier shortcuts
--   route     the places of the route from a to b
use Rattle.std.specs.Prelude.{ℕ, zero, suc, cond, List, [], ◌∷◌, ◌++◌, length, take, is_some, Some, None, ◌==◌}
use Rattle.std.specs.List.{slice_get}
use Rattle.hierarchy.specs.Kinds.{Kind}
use Rattle.hierarchy.specs.Lands.{Land}
use Rattle.hierarchy.specs.Books.{Book, joins, shortcut_between}
use Rattle.hierarchy.specs.Searches.{Front}

-- k bounds the number of steps back; a search makes fewer than there are places
abbrev pub chain_to : {K : Kind} → Front K → ℕ → ℕ → ℕ → List ℕ
chain_to front a zero x = x ∷ []
chain_to front a (suc k) x = cond (x == a) (x ∷ []) (chain_to front a k (front.from x) ++ (x ∷ []))

module _ {K : Kind} (book : Book K) where
  -- by the first k shortcuts: by those before the last of them if one of these joins the two places, and else by the last
  abbrev pub lay_by : ℕ → ℕ → ℕ → List ℕ
  lay_by zero x y = y ∷ []
  lay_by (suc k) x y =
      cond (is_some (book.kept x y)) (y ∷ []) (cond (is_some (shortcut_between (take k book.shortcuts) x y)) (lay_by k x y)
      (elim (slice_get book.shortcuts k) [
        | None ↦ y ∷ []
        | Some s ↦ cond (joins s x y) (lay_by k x s.middle ++ lay_by k s.middle y) (y ∷ [])
      ]))

  abbrev pub lay_link : ℕ → ℕ → List ℕ
  lay_link = lay_by (length book.shortcuts)

  abbrev pub lay_chain : ℕ → List ℕ → List ℕ
  lay_chain a [] = []
  lay_chain a (x ∷ l) = lay_link a x ++ lay_chain x l

  abbrev pub laid : List ℕ → List ℕ
  laid [] = []
  laid (a ∷ l) = a ∷ lay_chain a l

abbrev pub route : {K : Kind} → Land K → Book K → Front K → ℕ → ℕ → List ℕ
route land book front a b = laid book (chain_to front a land.size b)
