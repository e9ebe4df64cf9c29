-- What a whole search comes to, and the chain that its record table gives.
--   whole_search    how far a search from a to b among n places comes
--   predecessor_in  from where a place was reached, 0 past the table's end
--   chain_in        the chain that the predecessors in a table lead back along, from a to x; k bounds the number of steps back
--   places_of       the places of a chain
use Rattle.std.specs.Prelude.{ℕ, zero, suc, cond, List, [], ◌∷◌, ◌++◌, drop, Option, ◌==◌, slice_index_or}
use Rattle.cost.specs.declared.Cost.{Ghosts as Costs}
use Rattle.hierarchy.specs.declared.SearchRecord.{SearchRecord}
use Rattle.hierarchy.specs.Kinds.{kind_of}
use Rattle.hierarchy.specs.Searches.{Front, begin, search_on}
use Rattle.frontier.specs.Fronts.{blank}
use Rattle.routing.specs.declared.find.Chain.{Chain}

module _ {C : Type 0} (k : Costs C) where
  abbrev pub whole_search : (ℕ → ℕ → Option C) → ℕ → ℕ → ℕ → Front (kind_of k)
  whole_search step n a b = search_on step n b n (begin (kind_of k) a)

  abbrev pub predecessor_in : List (SearchRecord C) → ℕ → ℕ
  predecessor_in table x = (slice_index_or table x (blank k)).predecessor

  abbrev pub chain_in : List (SearchRecord C) → ℕ → ℕ → ℕ → List ℕ
  chain_in table a zero x = x ∷ []
  chain_in table a (suc j) x = cond (x == a) (x ∷ []) (chain_in table a j (predecessor_in table x) ++ (x ∷ []))

abbrev pub places_of : Chain → List ℕ
places_of chain = drop chain.first chain.places
