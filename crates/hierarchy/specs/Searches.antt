-- The search for a route.
--   Relevant     the two ends, what climbs from either, and the top level
--   Front        how far a search has come: who is reached, at what cost and from where, and who is settled
--   nearest      of the places below k that wait, the one of least cost, the smaller of equals
--   settle       settling v, which offers its cost plus the step's to each place that is not settled
--   links        the links that lead to relevant places
--   search       the search from a to b, which ends when b is settled or nothing waits
--   table_after  the record table after a search; later records are untouched
--   tally        how many places are settled
use Rattle.std.specs.Prelude.{◌≡◌, ℕ, zero, suc, Bool, true, false, cond, not, ◌&&◌, ◌||◌, ◌⊎◌, List, ◌++◌, map, drop, is_some, Some, None, Option, ◌==◌, nat_eq}
use Rattle.std.specs.Option.{unwrap_or}
use Rattle.ground.specs.Counts.{count}
use Rattle.hierarchy.specs.declared.SearchRecord.{SearchRecord}
use Rattle.hierarchy.specs.Kinds.{Kind, Price, add, cheaper}
use Rattle.hierarchy.specs.Lands.{Land}
use Rattle.hierarchy.specs.Chains.{Climbs}
use Rattle.hierarchy.specs.Books.{Book, link}
use Rattle.hierarchy.specs.Shortest.{below, memo}
use Rattle.hierarchy.specs.Deciders.{decided, climbs?}
use Rattle.hierarchy.specs.Linked.{inside_link}
use Rattle.hierarchy.specs.Decided.{either?, same?}

pub record Front (K : Kind) : Type 0 where
  pub reached : ℕ → Price K
  pub from : ℕ → ℕ
  pub settled : ℕ → Bool

-- only the start is reached, at no cost
abbrev pub begin : (K : Kind) → ℕ → Front K
begin K a = record { reached = λ x. cond (x == a) (Some K.zero) None; from = λ x. cond (x == a) a 0; settled = λ x. false }

module _ {K : Kind} (front : Front K) where
  abbrev pub waits : ℕ → Bool
  waits x = is_some (front.reached x) && not (front.settled x)

  abbrev pub nearer : Option ℕ → ℕ → Option ℕ
  nearer None x = cond (waits x) (Some x) None
  nearer (Some y) x = cond (waits x && cheaper K (front.reached x) (front.reached y)) (Some x) (Some y)

  abbrev pub nearest : ℕ → Option ℕ
  nearest zero = None
  nearest (suc k) = nearer (nearest k) k

-- over the given steps
module _ {K : Kind} (step : ℕ → ℕ → Price K) where
  abbrev pub offer : Front K → ℕ → ℕ → Price K
  offer front v x = add K (front.reached v) (step v x)

  -- not reached counts as dearer than every cost
  abbrev pub takes : Front K → ℕ → ℕ → Bool
  takes front v x = not (x == v || front.settled x) && cheaper K (offer front v x) (front.reached x)

  abbrev pub settle : Front K → ℕ → Front K
  settle front v = record {
    reached = λ x. cond (takes front v x) (offer front v x) (front.reached x);
    from = λ x. cond (takes front v x) v (front.from x);
    settled = λ x. (x == v) || front.settled x;
  }

  -- among n places to b, in at most k steps
  abbrev pub search_on : ℕ → ℕ → ℕ → Front K → Front K
  search_on n b zero front = front
  search_on n b (suc k) front =
      cond (front.settled b) front (elim (nearest front n) [ None ↦ front | Some v ↦ search_on n b k (settle front v) ])

module _ {K : Kind} (land : Land K) (book : Book K) (top : ℕ) (a b : ℕ) where
  abbrev pub Relevant : ℕ → Type 0
  Relevant x =
      ((x ≡ a) ⊎ (x ≡ b)) ⊎ ((book.level x ≡ top) ⊎ (Climbs book.level K (link land book) a x ⊎ Climbs book.level K (link land book) b x))

  abbrev pub relevant? : (x : ℕ) → Dec (Relevant x)
  relevant? =
      let climbs = climbs? K land.size (link land book) (inside_link land book) book.level in
      λ x. either? (either? (same? x a) (same? x b)) (either? (same? (book.level x) top) (either? (climbs a x) (climbs b x)))

  abbrev pub relevant : ℕ → Bool
  relevant = let r = relevant? in memo nat_eq (below land.size) (λ x. decided (r x))

  -- the links that lead to relevant places
  abbrev pub links : ℕ → ℕ → Price K
  links = let r = relevant in λ v x. cond (r x) (link land book v x) None

  -- each step settles one place, so that there are at most as many steps as places
  abbrev pub search : Front K
  search = let l = links in search_on l land.size b land.size (begin K a)

module _ {K : Kind} (front : Front K) where
  abbrev pub recorded : ℕ → SearchRecord K.C
  recorded x =
      cond (front.settled x) (record { settled = true; cost = unwrap_or (front.reached x) K.over; predecessor = front.from x })
      (record { settled = false; cost = K.zero; predecessor = 0 })

  abbrev pub table_after : ℕ → List (SearchRecord K.C) → List (SearchRecord K.C)
  table_after n table = map recorded (below n) ++ drop n table

  abbrev pub tally : ℕ → ℕ
  tally n = count front.settled n
