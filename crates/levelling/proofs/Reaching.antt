-- Shown: a search that goes on to a bound tells of each place what it should.
use Rattle.std.proofs.Common.{◌≡◌, ℕ, ◌<◌, Bool, true, false, ◌&&◌, ◌||◌, ltb, List, ◌++◌, length, get_or, is_some, Some, None, Option, sym, ap, ◌∙◌, subst, ⊎_elim, arith}
use Rattle.std.proofs.lemmas.List.{get_or_append_left}
use Rattle.std.proofs.lemmas.Bool.{true≢false, both_ways, cases_Bool, cases_lt, lt-ltb, or_right, and_from, cond-true}
use Rattle.cost.specs.declared.Cost.{Ghosts as Costs}
use Rattle.hierarchy.specs.declared.SearchRecord.{SearchRecord}
use Rattle.hierarchy.specs.Kinds.{kind_of}
use Rattle.hierarchy.specs.Walks.{Walk}
use Rattle.hierarchy.specs.Scales.{le_trans_c}
use Rattle.hierarchy.specs.Searches.{Front, begin, nearest, settle}
use Rattle.hierarchy.proofs.SearchNearest.{nearest_at}
use Rattle.hierarchy.proofs.SearchSteps.{Inside as LeadsInside, Sound, begin_sound, settle_sound}
use Rattle.hierarchy.proofs.SearchWalks.{settled-least, unsettled_unreached, bounded}
use Rattle.frontier.specs.Fronts.{blank, front_of, Inside}
use Rattle.levelling.specs.Reach.{Told, ReachedWithin}

module _ {C : Type 0} (k : Costs C) (step : ℕ → ℕ → Option C) (n a : ℕ) where
  leads_inside : Inside n step → LeadsInside (kind_of k) step n
  leads_inside inside v x c e = ⊎_elim (λ h. h) (λ h. absurd (true≢false (ap is_some (sym e ∙ inside v x h)))) (cases_lt x n)

  pub begun : a < n → (front : Front (kind_of k)) → front ≡ begin (kind_of k) a → Sound {K = kind_of k} step n a front
  begun h front e = subst (Sound {K = kind_of k} step n a) (sym e) (begin_sound step n a h)

  -- the front after a turn, which settles the nearest place
  pub goes_on : Inside n step → (front after : Front (kind_of k)) (v : ℕ) → Some v ≡ nearest front n → after ≡ settle step front v →
      Sound {K = kind_of k} step n a front → Sound {K = kind_of k} step n a after
  goes_on inside front after v near e sound =
      subst (Sound {K = kind_of k} step n a) (sym e) (settle_sound step n a (leads_inside inside) front sound v (nearest_at front n (Some v) (sym near)))

  -- what the record of a place says, if the search has come so far
  module _ (table : List (SearchRecord C)) (waiting : List Bool) (bound : C) (sound : Sound {K = kind_of k} step n a (front_of k n table waiting)) where
    abbrev front : Front (kind_of k)
    front = front_of k n table waiting

    settles : (x : ℕ) (t : Bool) → x < n → (get_or table x (blank k)).settled ≡ t → front.settled x ≡ t
    settles x t h e = ap (λ s. s && (get_or table x (blank k)).settled) (lt-ltb x n h) ∙ e

    reaches : (x : ℕ) → x < n → (get_or table x (blank k)).settled ≡ true → front.reached x ≡ Some (get_or table x (blank k)).cost
    reaches x h e = cond-true (ltb x n && (get_or waiting x false || (get_or table x (blank k)).settled)) _ None (and_from (ltb x n) _ (lt-ltb x n h) (or_right (get_or waiting x false) _ e))

    told : ((x : ℕ) → x < n → front.settled x ≡ false → (d : C) → Walk (kind_of k) step a x d → k.less bound d ≡ true) → ReachedWithin k step n a bound table
    told beyond x h = (λ e. settled-least step n a front sound x _ (settles x true h e) (reaches x h e), λ e. beyond x h (settles x false h e))

    pub none_waits : None ≡ nearest front n → ReachedWithin k step n a bound table
    none_waits none = told (λ x h e d walk. absurd (unsettled_unreached step n a front sound (sym none) x e d walk))

    -- the nearest place that waits costs more than the bound, and no walk to one that is not settled costs less than that
    pub too_dear : (v : ℕ) → Some v ≡ nearest front n → (cost : C) → Some cost ≡ front.reached v → k.less bound cost ≡ true → ReachedWithin k step n a bound table
    too_dear v near cost at dear = told (λ x w s d walk. ⊎_elim (λ e. e)
        (λ e. absurd (both_ways _ (le_trans_c (kind_of k) cost d bound (bounded step n a front sound v cost (sym near) (sym at) x s d walk) e) dear)) (cases_Bool (k.less bound d)))

-- of as many places, in the same table or with more records after its own
module _ {C : Type 0} (k : Costs C) (step : ℕ → ℕ → Option C) (a m n : ℕ) (all : m ≡ n) (bound : C) (table : List (SearchRecord C)) (told : ReachedWithin k step m a bound table) where
  pub reached_at_end : (last : List (SearchRecord C)) → last ≡ table → ReachedWithin k step n a bound last
  reached_at_end last same x h = subst (λ t. Told k step a bound x (get_or t x (blank k))) (sym same) (told x (omega arith))

  pub reached_before : (rest : List (SearchRecord C)) → length table ≡ m → ReachedWithin k step n a bound (table ++ rest)
  reached_before rest whole x h =
      let same : get_or table x (blank k) ≡ get_or (table ++ rest) x (blank k) = sym (get_or_append_left table rest (blank k) x (omega arith)) in
      subst (Told k step a bound x) same (told x (omega arith))
