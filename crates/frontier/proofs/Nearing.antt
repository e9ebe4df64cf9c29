-- Shown: a turn of the loop over the places is a turn of the search for the nearest place that waits.
use Rattle.std.proofs.Common.{◌≡◌, ℕ, ◌+◌, ◌<◌, Bool, true, false, cond, not, ◌&&◌, ◌||◌, List, get_or, is_some, Some, None, Option, sym, refl, ap, ◌∙◌, add-one, arith}
use Rattle.cost.specs.declared.Cost.{Ghosts as Costs}
use Rattle.hierarchy.specs.declared.SearchRecord.{SearchRecord}
use Rattle.hierarchy.specs.Kinds.{kind_of, cheaper}
use Rattle.hierarchy.specs.Searches.{nearer, nearest}
use Rattle.frontier.specs.Fronts.{blank, front_of, Waiting, closer}
use Rattle.frontier.proofs.Spots.{spot_in, spot_waits}

module _ {C : Type 0} (k : Costs C) where
  -- a place waits if its flag is set and it is not settled
  seen_waits : (flag s : Bool) (c : C) → (is_some (cond (flag || s) (Some c) None) && not s) ≡ (flag && not s)
  seen_waits true true c = refl
  seen_waits true false c = refl
  seen_waits false true c = refl
  seen_waits false false c = refl

  seen_cheaper : (flag s : Bool) (c d : C) →
      (is_some (cond (flag || s) (Some c) None) && not s && cheaper (kind_of k) (cond (flag || s) (Some c) None) (Some d)) ≡ (flag && not s && k.less c d)
  seen_cheaper true true c d = refl
  seen_cheaper true false c d = refl
  seen_cheaper false true c d = refl
  seen_cheaper false false c d = refl

  module _ (n x : ℕ) (table : List (SearchRecord C)) (waiting : List Bool) (h : x < n) where
    closer_is : (best : Option ℕ) → Waiting x waiting best → closer k table waiting best x ≡ nearer (front_of k n table waiting) best x
    closer_is None b =
        let r = get_or table x (blank k) in
        let s = spot_in k n table waiting x (get_or waiting x false) r h refl refl in
        sym ((λ i. cond (is_some (s i).0 && not (s i).2) (Some x) None) ∙ ap (λ t. cond t (Some x) None) (seen_waits (get_or waiting x false) r.settled r.cost))
    closer_is (Some y) b =
        let r = get_or table x (blank k) in
        let s = spot_in k n table waiting x (get_or waiting x false) r h refl refl in
        let e = spot_waits k n table waiting y (omega (arith, b.0)) b.1 in
        sym ((λ i. cond (is_some (s i).0 && not (s i).2 && cheaper (kind_of k) (s i).0 (e i)) (Some x) (Some y))
        ∙ ap (λ t. cond t (Some x) (Some y)) (seen_cheaper (get_or waiting x false) r.settled r.cost (get_or table y (blank k)).cost))

    pub nearest_more : (best r : Option ℕ) → Waiting x waiting best → best ≡ nearest (front_of k n table waiting) x → r ≡ closer k table waiting best x →
        r ≡ nearest (front_of k n table waiting) (x + 1)
    nearest_more best r b e er =
        let front = front_of k n table waiting in
        er ∙ closer_is best b ∙ ap {B = Option ℕ} (λ o. nearer front o x) e ∙ ap (nearest front) (sym (add-one x))
