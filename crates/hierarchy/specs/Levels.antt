-- Levelling.
--   Needs      the pair needs a shortcut over v
--   is_needed  whether it does
--   near       the places linked to v of level i or i + 1
--   pairs      the pairs of different places of a list, in rising order of the first, then of the second
--   needed     those that need a shortcut over v
--   raise      every place of level i gets i + 1
--   start      the book before the first round
--   visit      what becomes of the book when v is visited
--   round      every place of level i is raised, and each of level i + 1 is visited once
--   levelling  the book of N levels
use Rattle.std.specs.Prelude.{ℕ, zero, suc, ◌+◌, ◌-◌, Bool, true, cond, ◌&&◌, ◌||◌, List, [], ◌∷◌, ◌++◌, map, length, is_some, None, not, ◌==◌, nat_eq, nat_le}
use Rattle.std.specs.Option.{unwrap_or}
use Rattle.hierarchy.specs.declared.Shortcut.{Shortcut}
use Rattle.hierarchy.specs.Kinds.{Kind, Price, add}
use Rattle.hierarchy.specs.Lands.{Land, ways}
use Rattle.hierarchy.specs.Chains.{Round}
use Rattle.hierarchy.specs.Books.{Book, link}
use Rattle.hierarchy.specs.Shortest.{below, memo2}
use Rattle.hierarchy.specs.Deciders.{decided, cheapest, set_aside?}
use Rattle.hierarchy.specs.Phases.{same_spot, spots, layered, some_within}

abbrev pub select : {A : Type 0} → (A → Bool) → List A → List A
select p [] = []
select p (x ∷ l) = cond (p x) (x ∷ select p l) (select p l)

abbrev pub every : {A : Type 0} → (A → Bool) → List A → Bool
every p [] = true
every p (x ∷ l) = p x && every p l

abbrev pub pairs : List ℕ → List (ℕ × ℕ)
pairs [] = []
pairs (x ∷ l) = map (λ y. (x, y)) l ++ pairs l

abbrev pub raise : ℕ → (ℕ → ℕ) → ℕ → ℕ
raise i level x = cond (level x == i) (i + 1) (level x)

abbrev pub put : (ℕ → ℕ) → ℕ → ℕ → ℕ → ℕ
put level v i x = cond (x == v) i (level x)

module _ {K : Kind} (land : Land K) where
  -- the two links by v, together
  abbrev pub by_way_of : Book K → ℕ → ℕ → ℕ → Price K
  by_way_of book v a b = add K (link land book a v) (link land book v b)

  abbrev pub Needs : ℕ → Book K → ℕ → ℕ × ℕ → Type 0
  Needs i book v p = ¬ (Round K (link land book) book.level (i + 1) v p.0 p.1 (by_way_of book v p.0 p.1))

  abbrev pub is_needed : ℕ → Book K → ℕ → ℕ × ℕ → Bool
  is_needed i book v =
      let d = cheapest K same_spot (layered K (link land book) book.level (i + 1) v) (spots land.size) in
      λ p. not (some_within K p.0 p.1 (by_way_of book v p.0 p.1) d)

  abbrev pub near : ℕ → Book K → ℕ → List ℕ
  near i book v = select (λ a. is_some (link land book a v) && (book.level a == i || book.level a == i + 1)) (below land.size)

  abbrev pub needed : ℕ → Book K → ℕ → List (ℕ × ℕ)
  needed i book v = select (is_needed i book v) (pairs (near i book v))

  -- both links are there for a pair that is near, so that there is a sum
  abbrev pub shortcut_over : Book K → ℕ → ℕ × ℕ → Shortcut K.C
  shortcut_over book v p =
      record { smaller = p.0; larger = p.1; middle = v; cost = unwrap_or (by_way_of book v p.0 p.1) K.over }

  -- before the first round: shut places have level 0 and free ones level 1, ways that some walk beats are set aside, and there
  -- are no shortcuts
  abbrev pub start : Book K
  start = record {
    level = λ x. cond (land.free x) 1 0;
    kept = memo2 nat_eq (below land.size) (let d = set_aside? K land in λ a b. cond (decided (d a b)) None (ways land a b));
    shortcuts = [];
  }

  module _ (rule : ℕ → ℕ → Bool) where
    abbrev pub visit : ℕ → Book K → ℕ → Book K
    visit i book v =
        let new = needed i book v in
        cond (every (λ p. rule p.0 p.1) new && nat_le (length book.shortcuts + length new) 2048)
        (record { level = put book.level v i; kept = book.kept; shortcuts = book.shortcuts ++ map (shortcut_over book v) new })
        book

    abbrev pub visit_each : ℕ → List ℕ → Book K → Book K
    visit_each i [] book = book
    visit_each i (v ∷ vs) book = visit_each i vs (cond (book.level v == i + 1) (visit i book v) book)

    abbrev pub round : ℕ → Book K → Book K
    round i book =
        visit_each i (below land.size) (record { level = raise i book.level; kept = book.kept; shortcuts = book.shortcuts })

    -- k rounds, from round i on
    abbrev pub rounds : ℕ → ℕ → Book K → Book K
    rounds zero i book = book
    rounds (suc k) i book = rounds k (i + 1) (round i book)

    abbrev pub levelling : ℕ → Book K
    levelling levels = rounds (levels - 1) 1 start
