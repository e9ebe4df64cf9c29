-- Shown: rows that are cleared, and in which the start is then reached, are the front that a search begins with.
use Rattle.std.proofs.Common.{◌≡◌, ℕ, ◌<◌, ◌≤◌, Bool, true, false, cond, List, length, get_or, drop, set, Some, None, sym, ap, ◌∙◌, ⊎_elim, arith}
use Rattle.std.proofs.lemmas.List.{get_or-set_same, get_or-set_other, drop-set-lt}
use Rattle.std.proofs.lemmas.Bool.{eq-eqb, ne_eqb, cases_eq, cases_lt}
use Rattle.cost.specs.declared.Cost.{Ghosts as Costs}
use Rattle.hierarchy.specs.declared.SearchRecord.{SearchRecord}
use Rattle.hierarchy.specs.Kinds.{kind_of}
use Rattle.hierarchy.specs.Searches.{Front, begin}
use Rattle.frontier.specs.Fronts.{blank, reached_at, front_of, renewed}
use Rattle.frontier.proofs.Renewals.{renewed-below, renewed_rest}
use Rattle.frontier.proofs.Spots.{spot, front_same, spot_in, spot_out}

module _ {C : Type 0} (k : Costs C) where
  start_spot : (a x : ℕ) → x ≡ a → spot (begin (kind_of k) a) x ≡ (Some k.zero, a, false)
  start_spot a x e = let t = eq-eqb x a e in λ i. (cond (t i) (Some k.zero) None, cond (t i) a 0, false)

  other_spot : (a x : ℕ) → (x ≡ a → ⊥) → spot (begin (kind_of k) a) x ≡ (None, 0, false)
  other_spot a x ne = let t = ne_eqb x a ne in λ i. (cond (t i) (Some k.zero) None, cond (t i) a 0, false)

  module _ (n a : ℕ) (ha : a < n) (table : List (SearchRecord C)) (waiting : List Bool) (ht : n ≤ length table) (hw : n ≤ length waiting)
      (bare : (x : ℕ) → x < n → get_or table x (blank k) ≡ blank k) (idle : (x : ℕ) → x < n → get_or waiting x false ≡ false) where
    abbrev start : Front (kind_of k)
    start = front_of k n (set table a (reached_at k.zero a)) (set waiting a true)

    at : (x : ℕ) → x ≡ a → spot start x ≡ spot (begin (kind_of k) a) x
    at x e =
        spot_in k n _ _ x true (reached_at k.zero a) (omega arith)
        (ap (λ y. get_or (set waiting a true) y false) e ∙ get_or-set_same waiting a true false (omega arith))
        (ap (λ y. get_or (set table a (reached_at k.zero a)) y (blank k)) e ∙ get_or-set_same table a _ (blank k) (omega arith))
        ∙ sym (start_spot a x e)

    off : (x : ℕ) → (x ≡ a → ⊥) → spot start x ≡ spot (begin (kind_of k) a) x
    off x ne =
        ⊎_elim
        (λ h. spot_in k n _ _ x false (blank k) h (get_or-set_other waiting a x true false ne ∙ idle x h) (get_or-set_other table a x _ (blank k) ne ∙ bare x h))
        (λ h. spot_out k n _ _ x h)
        (cases_lt x n)
        ∙ sym (other_spot a x ne)

    start_is : start ≡ begin (kind_of k) a
    start_is = front_same start (begin (kind_of k) a) (λ x. ⊎_elim (at x) (off x) (cases_eq x a))

  -- of rows that are cleared, and then of rows in which the start is reached
  module _ (n a : ℕ) (ha : a < n) (table t u : List (SearchRecord C)) (waiting w o : List Bool) (ht : n ≤ length t) (hw : n ≤ length w)
      (et : t ≡ renewed n (λ _. blank k) table) (ew : w ≡ renewed n (λ _. false) waiting)
      (z : C) (ez : z ≡ k.zero) (eu : u ≡ set t a (reached_at z a)) (eo : o ≡ set w a true) where
    pub begun : (front_of k n u o ≡ begin (kind_of k) a) × (drop n u ≡ drop n table)
    begun = (
      (λ i. front_of k n (eu i) (eo i))
          ∙ (λ i. front_of k n (set t a (reached_at (ez i) a)) (set w a true))
          ∙ start_is n a ha t w ht hw
          (λ x h. ap (λ l. get_or l x (blank k)) et ∙ renewed-below (λ _. blank k) table n x (blank k) h)
          (λ x h. ap (λ l. get_or l x false) ew ∙ renewed-below (λ _. false) waiting n x false h),
      ap (drop n) eu ∙ drop-set-lt n t a _ ha ∙ ap (drop n) et ∙ renewed_rest (λ _. blank k) table n,
    )
