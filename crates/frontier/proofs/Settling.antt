-- Shown: settling a place and offering to every other is settling in the front.
--   records_after, flags_after  what every place has after the offers
--   answer  what a spot becomes by an offer
use Rattle.std.proofs.Common.{◌≡◌, ℕ, ◌+◌, ◌<◌, ◌≤◌, Bool, true, false, cond, not, ◌&&◌, ◌||◌, eqb, List, length, get_or, drop, set, Some, None, Option, sym, refl, ap, ◌∙◌, ⊎_elim, arith}
use Rattle.std.proofs.lemmas.List.{get_or-set_same, get_or-set_other, set-get_or, drop-set-lt}
use Rattle.std.proofs.lemmas.Bool.{eq-eqb, ne_eqb, cases_eq, cases_lt}
use Rattle.cost.specs.declared.Cost.{Ghosts as Costs}
use Rattle.hierarchy.specs.declared.SearchRecord.{SearchRecord}
use Rattle.hierarchy.specs.Kinds.{Kind, Price, kind_of, cheaper, add}
use Rattle.hierarchy.specs.Searches.{Front, settle}
use Rattle.frontier.specs.Fronts.{blank, reached_at, front_of, renewed, Inside, accepts, offered, flagged}
use Rattle.frontier.proofs.Renewals.{renewed_more, renewed-below, renewed_above, renewed_rest}
use Rattle.frontier.proofs.Spots.{Spot, spot, seen, front_same, spot_in, spot_out, spot_waits}

abbrev pub answer : (K : Kind) → ℕ → Price K → Spot K → Spot K
answer K v p s = (cond (not s.2 && cheaper K p s.0) p s.0, cond (not s.2 && cheaper K p s.0) v s.1, s.2)

module _ {K : Kind} (step : ℕ → ℕ → Price K) (front : Front K) (v x : ℕ) where
  -- what becomes of x, by whether it is the place settled
  settle_at : (b : Bool) → eqb x v ≡ b → let p = add K (front.reached v) (step v x) in let t = not (b || front.settled x) && cheaper K p (front.reached x) in
      spot (settle step front v) x ≡ (cond t p (front.reached x), cond t v (front.from x), b || front.settled x)
  settle_at b e =
      let p = add K (front.reached v) (step v x) in
      let c = cheaper K p (front.reached x) in
      λ i. (cond (not (e i || front.settled x) && c) p (front.reached x), cond (not (e i || front.settled x) && c) v (front.from x), e i || front.settled x)

  pub settle_here : x ≡ v → spot (settle step front v) x ≡ (front.reached x, front.from x, true)
  settle_here h = settle_at true (eq-eqb x v h)

  pub settle_there : (x ≡ v → ⊥) → spot (settle step front v) x ≡ answer K v (add K (front.reached v) (step v x)) (spot front x)
  settle_there h = settle_at false (ne_eqb x v h)

module _ {C : Type 0} (k : Costs C) where
  -- an offer of less, or of no less, than the cost of a place that waits
  less_seen : (v u : ℕ) (b : Bool) (c d : C) →
      seen k (cond b true true) (cond b (reached_at c v) (reached_at d u))
      ≡ (cond b (Some c) (Some d), cond b v u, false)
  less_seen v u true c d = refl
  less_seen v u false c d = refl

  offer_seen : (v u : ℕ) (s flag : Bool) (d : C) (p : Option C) →
      let r : SearchRecord C = record { settled = s; cost = d; predecessor = u } in
      seen k (flagged k r flag p) (offered k v r flag p) ≡ answer (kind_of k) v p (seen k flag r)
  offer_seen v u true flag d None = refl
  offer_seen v u false flag d None = refl
  offer_seen v u true flag d (Some c) = refl
  offer_seen v u false false d (Some c) = refl
  offer_seen v u false true d (Some c) = less_seen v u (k.less c d) c d

  -- a settled place refuses
  settled_record : (v u : ℕ) (flag : Bool) (d : C) (p : Option C) →
      offered k v (record { settled = true; cost = d; predecessor = u }) flag p ≡ record { settled = true; cost = d; predecessor = u }
  settled_record v u flag d None = refl
  settled_record v u flag d (Some c) = refl

  settled_flag : (u : ℕ) (flag : Bool) (d : C) (p : Option C) → flagged k (record { settled = true; cost = d; predecessor = u }) flag p ≡ flag
  settled_flag u flag d None = refl
  settled_flag u flag d (Some c) = refl

  -- an offer from v, which costs c, by a step q: one that is refused changes nothing
  module _ (v i : ℕ) (table : List (SearchRecord C)) (waiting : List Bool) (c : C) (q : Option C) where
    abbrev r : SearchRecord C
    r = get_or table i (blank k)

    abbrev flag : Bool
    flag = get_or waiting i false

    abbrev p : Option C
    p = add (kind_of k) (Some c) q

    abbrev Unchanged : Type 0
    Unchanged = (table ≡ set table i (offered k v r flag p)) × (waiting ≡ set waiting i (flagged k r flag p))

    unchanged : offered k v r flag p ≡ r → flagged k r flag p ≡ flag → Unchanged
    unchanged e f = (sym (set-get_or table i (blank k)) ∙ ap (set table i) (sym e), sym (set-get_or waiting i false) ∙ ap (set waiting i) (sym f))

    pub no_offer : None ≡ q → Unchanged
    no_offer h =
        unchanged (λ j. offered k v r flag (add (kind_of k) (Some c) (sym h j))) (λ j. flagged k r flag (add (kind_of k) (Some c) (sym h j)))

    pub refused : (d sum : C) → Some d ≡ q → sum ≡ k.plus c d → false ≡ accepts k r flag sum → Unchanged
    refused d sum h e f =
        let is : p ≡ Some sum = (λ j. add (kind_of k) (Some c) (sym h j)) ∙ ap Some (sym e) in
        unchanged
        (ap (offered k v r flag) is ∙ ap (λ b. cond b (reached_at sum v) r) (sym f))
        (ap (flagged k r flag) is ∙ ap (λ b. cond b true flag) (sym f))

  module _ (step : ℕ → Option C) (v : ℕ) (c : C) (table : List (SearchRecord C)) (waiting : List Bool) where
    abbrev pub records_after : ℕ → SearchRecord C
    records_after x = offered k v (get_or table x (blank k)) (get_or waiting x false) (add (kind_of k) (Some c) (step x))

    abbrev pub flags_after : ℕ → Bool
    flags_after x = flagged k (get_or table x (blank k)) (get_or waiting x false) (add (kind_of k) (Some c) (step x))

    -- one offer more
    module _ (i : ℕ) (ht : i < length table) (hw : i < length waiting) (t : List (SearchRecord C)) (w : List Bool)
        (et : t ≡ renewed i records_after table) (ew : w ≡ renewed i flags_after waiting) where
      same_record : get_or t i (blank k) ≡ get_or table i (blank k)
      same_record = ap (λ u. get_or u i (blank k)) et ∙ renewed_above records_after table i i (blank k) (omega arith)

      same_flag : get_or w i false ≡ get_or waiting i false
      same_flag = ap (λ u. get_or u i false) ew ∙ renewed_above flags_after waiting i i false (omega arith)

      pub records_more : (u : List (SearchRecord C)) → u ≡ set t i (offered k v (get_or t i (blank k)) (get_or w i false) (add (kind_of k) (Some c) (step i))) →
          u ≡ renewed (i + 1) records_after table
      records_more u e =
          e ∙ (λ j. set (et j) i (offered k v (same_record j) (same_flag j) (add (kind_of k) (Some c) (step i)))) ∙ renewed_more records_after table i ht

      pub flags_more : (u : List Bool) → u ≡ set w i (flagged k (get_or t i (blank k)) (get_or w i false) (add (kind_of k) (Some c) (step i))) →
          u ≡ renewed (i + 1) flags_after waiting
      flags_more u e =
          e ∙ (λ j. set (ew j) i (flagged k (same_record j) (same_flag j) (add (kind_of k) (Some c) (step i)))) ∙ renewed_more flags_after waiting i hw

  module _ (n v : ℕ) (step : ℕ → ℕ → Option C) (table : List (SearchRecord C)) (waiting : List Bool) (ht : n ≤ length table) (hw : n ≤ length waiting)
      (hv : v < n) (waits : get_or waiting v false ≡ true) (inside : Inside n step) where
    abbrev old : SearchRecord C
    old = get_or table v (blank k)

    -- the rows as v is settled, and the front after m offers; r and s are the record as it was read
    abbrev pub marked : SearchRecord C → List (SearchRecord C)
    marked s = set table v (record { settled = true; cost = s.cost; predecessor = s.predecessor })

    abbrev pub idle : List Bool
    idle = set waiting v false

    abbrev later : ℕ → SearchRecord C → SearchRecord C → Front (kind_of k)
    later m r s =
        front_of k n (renewed m (records_after (step v) v r.cost (marked s) idle) (marked s)) (renewed m (flags_after (step v) v r.cost (marked s) idle) idle)

    abbrev after : Front (kind_of k)
    after = later n old old

    abbrev before : Front (kind_of k)
    before = front_of k n table waiting

    price : before.reached v ≡ Some old.cost
    price = spot_waits k n table waiting v hv waits

    -- after the offers, by what the place had before them
    after_in : (x : ℕ) (flag : Bool) (r : SearchRecord C) → x < n → get_or idle x false ≡ flag → get_or (marked old) x (blank k) ≡ r →
        let p = add (kind_of k) (Some old.cost) (step v x) in spot after x ≡ seen k (flagged k r flag p) (offered k v r flag p)
    after_in x flag r h a b =
        let p = add (kind_of k) (Some old.cost) (step v x) in
        spot_in k n _ _ x _ _ h
        (renewed-below (flags_after (step v) v old.cost (marked old) idle) idle n x false h ∙ (λ i. flagged k (b i) (a i) p))
        (renewed-below (records_after (step v) v old.cost (marked old) idle) (marked old) n x (blank k) h ∙ (λ i. offered k v (b i) (a i) p))

    at : (x : ℕ) → x ≡ v → spot after x ≡ spot (settle step before v) x
    at x e =
        let p = add (kind_of k) (Some old.cost) (step v x) in
        after_in x false (record { settled = true; cost = old.cost; predecessor = old.predecessor }) (omega arith)
        (ap (λ y. get_or idle y false) e ∙ get_or-set_same waiting v false false (omega arith))
        (ap (λ y. get_or (marked old) y (blank k)) e ∙ get_or-set_same table v _ (blank k) (omega arith))
        ∙ (λ i. seen k (settled_flag old.predecessor false old.cost p i) (settled_record v old.predecessor false old.cost p i))
        ∙ (λ i. (sym price i, sym (ap (λ s. s.1) (spot_in k n table waiting v true old hv waits refl)) i, true))
        ∙ (λ i. (before.reached (sym e i), before.from (sym e i), true))
        ∙ sym (settle_here step before v x e)

    -- what settling v does to any other place
    elsewhere : (x : ℕ) → (x ≡ v → ⊥) → spot (settle step before v) x ≡ answer (kind_of k) v (add (kind_of k) (Some old.cost) (step v x)) (spot before x)
    elsewhere x ne = settle_there step before v x ne ∙ ap (λ q. answer (kind_of k) v (add (kind_of k) q (step v x)) (spot before x)) price

    off : (x : ℕ) → (x ≡ v → ⊥) → x < n → spot after x ≡ spot (settle step before v) x
    off x ne h =
        let p = add (kind_of k) (Some old.cost) (step v x) in
        let r = get_or table x (blank k) in
        after_in x (get_or waiting x false) r h (get_or-set_other waiting v x false false ne) (get_or-set_other table v x _ (blank k) ne)
        ∙ offer_seen v r.predecessor r.settled (get_or waiting x false) r.cost p
        ∙ ap (answer (kind_of k) v p) (sym (spot_in k n table waiting x (get_or waiting x false) r h refl refl))
        ∙ sym (elsewhere x ne)

    out : (x : ℕ) → (x ≡ v → ⊥) → n ≤ x → spot after x ≡ spot (settle step before v) x
    out x ne h =
        spot_out k n _ _ x h
        ∙ (λ i. answer (kind_of k) v (add (kind_of k) (Some old.cost) (sym (inside v x h) i)) (sym (spot_out k n table waiting x h) i))
        ∙ sym (elsewhere x ne)

    settle_front : after ≡ settle step before v
    settle_front =
        front_same after (settle step before v) (λ x. ⊎_elim (at x) (λ ne. ⊎_elim (off x ne) (out x ne) (cases_lt x n)) (cases_eq x v))

    module _ (m : ℕ) (r s : SearchRecord C) (t : List (SearchRecord C)) (w : List Bool) (all : m ≡ n) (er : r ≡ old) (es : s ≡ old)
        (et : t ≡ renewed m (records_after (step v) v r.cost (marked s) idle) (marked s))
        (ew : w ≡ renewed m (flags_after (step v) v r.cost (marked s) idle) idle) where
      pub settled : (front_of k n t w ≡ settle step before v) × (drop n t ≡ drop n table)
      settled =
          let f = records_after (step v) v r.cost (marked s) idle in (
            (λ i. front_of k n (et i) (ew i)) ∙ (λ i. later (all i) (er i) (es i)) ∙ settle_front,
            ap (drop n) et ∙ ap (λ j. drop n (renewed j f (marked s))) all ∙ renewed_rest f (marked s) n ∙ drop-set-lt n table v _ hv,
          )
