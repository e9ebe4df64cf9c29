-- What a record table and a row of flags say of a search among n places.
--   blank       the record of a place that is not reached
--   reached_at  the record of a place that is reached and not settled
--   front_of    how far the search has come: a place is reached if it waits or is settled
--   Inside      steps lead only to places below n
--   Waiting     a place below n whose flag is set, or no place
--   renewed     the first n of a row made anew by place; the others are untouched
--   closer      of the best place so far and a later one, the one to settle first
--   accepts     a place takes an offered cost
--   offered     the record of a place after an offer
--   flagged     its flag after an offer
use Rattle.std.specs.Prelude.{◌≡◌, ℕ, ◌<◌, ◌≤◌, Bool, true, false, cond, not, ◌&&◌, ◌||◌, List, ◌++◌, map, get_or, drop, Some, None, Option, nat_lt, slice_index_or}
use Rattle.cost.specs.declared.Cost.{Ghosts as Costs}
use Rattle.hierarchy.specs.declared.SearchRecord.{SearchRecord}
use Rattle.hierarchy.specs.Kinds.{kind_of}
use Rattle.hierarchy.specs.Searches.{Front}
use Rattle.hierarchy.specs.Shortest.{below}

abbrev pub blank : {C : Type 0} → Costs C → SearchRecord C
blank k = record { settled = false; cost = k.zero; predecessor = 0 }

abbrev pub reached_at : {C : Type 0} → C → ℕ → SearchRecord C
reached_at c v = record { settled = false; cost = c; predecessor = v }

abbrev pub front_of : {C : Type 0} → (k : Costs C) → ℕ → List (SearchRecord C) → List Bool → Front (kind_of k)
front_of k n table waiting = record {
  reached = λ x. cond (nat_lt x n && (slice_index_or waiting x false || (get_or table x (blank k)).settled)) (Some (get_or table x (blank k)).cost) None;
  from = λ x. cond (nat_lt x n) (get_or table x (blank k)).predecessor 0;
  settled = λ x. nat_lt x n && (get_or table x (blank k)).settled;
}

abbrev pub Inside : {C : Type 0} → ℕ → (ℕ → ℕ → Option C) → Type 0
Inside n step = (v x : ℕ) → n ≤ x → step v x ≡ None

abbrev pub Waiting : ℕ → List Bool → Option ℕ → Type 0
Waiting n waiting None = Unit {0}
Waiting n waiting (Some x) = (x < n) × (slice_index_or waiting x false ≡ true)

abbrev pub renewed : {A : Type 0} → ℕ → (ℕ → A) → List A → List A
renewed n f xs = map f (below n) ++ drop n xs

module _ {C : Type 0} (k : Costs C) where
  abbrev pub closer : List (SearchRecord C) → List Bool → Option ℕ → ℕ → Option ℕ
  closer table waiting None x = cond (slice_index_or waiting x false && not (get_or table x (blank k)).settled) (Some x) None
  closer table waiting (Some y) x =
      cond (slice_index_or waiting x false && not (get_or table x (blank k)).settled && k.less (get_or table x (blank k)).cost (get_or table y (blank k)).cost) (Some x) (Some y)

  abbrev pub accepts : SearchRecord C → Bool → C → Bool
  accepts r flag c = not r.settled && (not flag || k.less c r.cost)

  -- the offer comes from the place v
  abbrev pub offered : ℕ → SearchRecord C → Bool → Option C → SearchRecord C
  offered v r flag None = r
  offered v r flag (Some c) = cond (accepts r flag c) (reached_at c v) r

  abbrev pub flagged : SearchRecord C → Bool → Option C → Bool
  flagged r flag None = flag
  flagged r flag (Some c) = cond (accepts r flag c) true flag
