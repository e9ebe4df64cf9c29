-- Shown: what the end of a search records of a place is the record itself if it is settled, and else a blank one.
use Rattle.std.proofs.Common.{◌≡◌, ℕ, ◌+◌, ◌<◌, Bool, true, false, cond, List, length, get_or, set, unwrap_or, sym, refl, ap, ◌∙◌, arith}
use Rattle.std.proofs.lemmas.List.{get_or_default}
use Rattle.cost.specs.declared.Cost.{Ghosts as Costs}
use Rattle.hierarchy.specs.declared.SearchRecord.{SearchRecord}
use Rattle.hierarchy.specs.Kinds.{kind_of}
use Rattle.hierarchy.specs.Searches.{recorded, table_after}
use Rattle.frontier.specs.Fronts.{blank, front_of, renewed}
use Rattle.frontier.proofs.Renewals.{renewed_above, renewed_more}
use Rattle.frontier.proofs.Spots.{Spot, seen, spot_in}

module _ {C : Type 0} (k : Costs C) where
  module _ (n x : ℕ) (table : List (SearchRecord C)) (waiting : List Bool) (h : x < n) where
    abbrev record_of : Spot (kind_of k) → SearchRecord C
    record_of s = cond s.2 (record { settled = true; cost = unwrap_or s.0 k.over; predecessor = s.1 }) (blank k)

    ended : (flag s : Bool) (c : C) (v : ℕ) →
        let r : SearchRecord C = record { settled = s; cost = c; predecessor = v } in record_of (seen k flag r) ≡ cond s r (blank k)
    ended true true c v = refl
    ended true false c v = refl
    ended false true c v = refl
    ended false false c v = refl

    recorded_is : let r = get_or table x (blank k) in recorded (front_of k n table waiting) x ≡ cond r.settled r (blank k)
    recorded_is =
        let r = get_or table x (blank k) in
        ap record_of (spot_in k n table waiting x (get_or waiting x false) r h refl refl) ∙ ended (get_or waiting x false) r.settled r.cost r.predecessor

    -- one record more, which is read as d
    pub finish_more : x < length table → (t : List (SearchRecord C)) → t ≡ table_after (front_of k n table waiting) x table →
        (d r : SearchRecord C) → d ≡ get_or t x d → r ≡ cond d.settled d (blank k) → set t x r ≡ table_after (front_of k n table waiting) (x + 1) table
    finish_more ht t et d r ed er =
        let f = recorded (front_of k n table waiting) in
        let same = ed ∙ ap (λ u. get_or u x d) et ∙ renewed_above f table x x d (omega arith) ∙ get_or_default table x d (blank k) ht in
        (λ i. set (et i) x (er i))
        ∙ ap (set (renewed x f table) x) ((λ i. cond (same i).settled (same i) (blank k)) ∙ sym recorded_is)
        ∙ renewed_more f table x ht
