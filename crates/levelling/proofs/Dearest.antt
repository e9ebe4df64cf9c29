-- Shown: the dearer of two prices is at least either.
use Rattle.std.proofs.Common.{◌≡◌, Bool, true, false, cond, is_some, Some, None, Option, sym, refl}
use Rattle.std.proofs.lemmas.Bool.{true≢false, not-true, not_from_false, not-false}
use Rattle.cost.specs.declared.Cost.{Ghosts as Costs}
use Rattle.hierarchy.specs.Kinds.{kind_of}
use Rattle.hierarchy.specs.Scales.{le_trans_c}
use Rattle.levelling.specs.Priced.{at_most, dearer}

module _ {C : Type 0} (k : Costs C) where
  pub at_most_trans : (p q r : Option C) → at_most k p q ≡ true → at_most k q r ≡ true → at_most k p r ≡ true
  at_most_trans None q r h j = h
  at_most_trans (Some a) None r h j = absurd (true≢false (sym h))
  at_most_trans (Some a) (Some b) None h j = absurd (true≢false (sym j))
  at_most_trans (Some a) (Some b) (Some c) h j = not_from_false _ (le_trans_c (kind_of k) a b c (not-true _ h) (not-true _ j))

  -- of two costs one is at most the other
  less_most : (b c : C) → at_most k (Some c) (Some b) ≡ false → at_most k (Some b) (Some c) ≡ true
  less_most b c h = not_from_false _ (k.laws.one_way b c (not-false _ h))

  pub dearer_old : (x best p : Option C) → at_most k x best ≡ true → at_most k x (dearer k best p) ≡ true
  dearer_old x best None h = h
  dearer_old x None (Some c) h = absurd (none_most x h)
    where
      none_most : (x : Option C) → at_most k x None ≡ true → ⊥
      none_most None h = true≢false (sym h)
      none_most (Some a) h = true≢false (sym h)
  dearer_old x (Some b) (Some c) h = go (at_most k (Some c) (Some b)) refl
    where
      go : (t : Bool) → at_most k (Some c) (Some b) ≡ t → at_most k x (cond t (Some b) (Some c)) ≡ true
      go true e = h
      go false e = at_most_trans x (Some b) (Some c) h (less_most b c e)

  pub dearer_new : (best p : Option C) → is_some p ≡ true → at_most k p (dearer k best p) ≡ true
  dearer_new best None h = absurd (true≢false (sym h))
  dearer_new best (Some c) h = go (at_most k (Some c) best) refl
    where
      go : (t : Bool) → at_most k (Some c) best ≡ t → at_most k (Some c) (cond t best (Some c)) ≡ true
      go true e = e
      go false e = not_from_false _ (k.laws.irreflexive c)
