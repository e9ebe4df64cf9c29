-- Shown: what a front says of one place is what the record and the flag of that place say.
--   spot  what a front says of a place: its price, its predecessor and whether it is settled
--   seen  what a flag and a record say
use Rattle.std.proofs.Common.{◌≡◌, ℕ, ◌<◌, ◌≤◌, Bool, true, false, cond, ◌&&◌, ◌||◌, List, get_or, Some, None, refl, ap}
use Rattle.std.proofs.lemmas.Bool.{lt-ltb, le-ltb}
use Rattle.cost.specs.declared.Cost.{Ghosts as Costs}
use Rattle.hierarchy.specs.declared.SearchRecord.{SearchRecord}
use Rattle.hierarchy.specs.Kinds.{Kind, Price, kind_of}
use Rattle.hierarchy.specs.Searches.{Front}
use Rattle.frontier.specs.Fronts.{blank, front_of}

abbrev pub Spot : Kind → Type 0
Spot K = Price K × ℕ × Bool

abbrev pub spot : {K : Kind} → Front K → ℕ → Spot K
spot front x = (front.reached x, front.from x, front.settled x)

pub front_same : {K : Kind} (f g : Front K) → ((x : ℕ) → spot f x ≡ spot g x) → f ≡ g
front_same f g same = λ i. record { reached = λ x. (same x i).0; from = λ x. (same x i).1; settled = λ x. (same x i).2 }

module _ {C : Type 0} (k : Costs C) where
  abbrev pub seen : Bool → SearchRecord C → Spot (kind_of k)
  seen flag r = (cond (flag || r.settled) (Some r.cost) None, r.predecessor, r.settled)

  module _ (n : ℕ) (table : List (SearchRecord C)) (waiting : List Bool) where
    pub spot_in : (x : ℕ) (flag : Bool) (r : SearchRecord C) → x < n → get_or waiting x false ≡ flag → get_or table x (blank k) ≡ r →
        spot (front_of k n table waiting) x ≡ seen flag r
    spot_in x flag r h p q =
        let e = lt-ltb x n h in
        λ i. (cond (e i && (p i || (q i).settled)) (Some (q i).cost) None, cond (e i) (q i).predecessor 0, e i && (q i).settled)

    pub spot_out : (x : ℕ) → n ≤ x → spot (front_of k n table waiting) x ≡ (None, 0, false)
    spot_out x h =
        let e = le-ltb x n h in
        let r = get_or table x (blank k) in
        λ i. (cond (e i && (get_or waiting x false || r.settled)) (Some r.cost) None, cond (e i) r.predecessor 0, e i && r.settled)

    -- at a place that waits
    pub spot_waits : (x : ℕ) → x < n → get_or waiting x false ≡ true → (front_of k n table waiting).reached x ≡ Some (get_or table x (blank k)).cost
    spot_waits x h w = ap (λ s. s.0) (spot_in x true (get_or table x (blank k)) h w refl)
