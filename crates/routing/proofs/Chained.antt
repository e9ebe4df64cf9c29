-- Shown: a chain that is written from its end, one predecessor at a time, is the chain that the table gives.
use Rattle.std.proofs.Common.{◌≡◌, ℕ, suc, ◌+◌, ◌<◌, eqb, List, [], ◌∷◌, ◌++◌, length, get_or, drop, set, sym, ap, ◌∙◌, arith}
use Rattle.std.proofs.lemmas.List.{append_assoc, drop_more, drop-set-lt, get_or-set_same}
use Rattle.std.proofs.lemmas.Bool.{eq-eqb, ne_eqb, cond-true, cond-false}
use Rattle.cost.specs.declared.Cost.{Ghosts as Costs}
use Rattle.hierarchy.specs.declared.SearchRecord.{SearchRecord}
use Rattle.routing.specs.Found.{predecessor_in, chain_in}

-- the places from first on are written; j steps back are left from the place at first
module _ {C : Type 0} (k : Costs C) (table : List (SearchRecord C)) (a : ℕ) (places whole : List ℕ) (first : ℕ) (h : first < length places) where
  abbrev place : ℕ
  place = get_or places first 0

  abbrev Left : ℕ → Type 0
  Left j = chain_in k table a j place ++ drop (first + 1) places ≡ whole

  all_written : (j : ℕ) → chain_in k table a j place ≡ place ∷ [] → Left j → drop first places ≡ whole
  all_written j e left = drop_more places first 0 h ∙ ap (λ l. l ++ drop (first + 1) places) (sym e) ∙ left

  pub steps-over : (j : ℕ) → j ≡ 0 → Left j → drop first places ≡ whole
  steps-over j e left = all_written j (ap (λ m. chain_in k table a m place) e) left

  pub start-reached : (j m : ℕ) → j ≡ suc m → place ≡ a → Left j → drop first places ≡ whole
  start-reached j m e s left =
      all_written j (ap (λ l. chain_in k table a l place) e ∙ cond-true (eqb place a) _ _ (eq-eqb place a s)) left

  pub step_back : (j m : ℕ) → j ≡ suc m → (place ≡ a → ⊥) → Left j → (f p : ℕ) → f + 1 ≡ first → p ≡ predecessor_in k table place →
      chain_in k table a m (get_or (set places f p) f 0) ++ drop (f + 1) (set places f p) ≡ whole
  step_back j m e s left f p ef ep =
      let back = chain_in k table a m (predecessor_in k table place) in
      (λ i. chain_in k table a m (get_or-set_same places f p 0 (omega arith) i) ++ drop-set-lt (f + 1) places f p (omega arith) i)
      ∙ (λ i. chain_in k table a m (ep i) ++ drop (ef i) places)
      ∙ ap (λ l. back ++ l) (drop_more places first 0 h)
      ∙ sym (append_assoc back (place ∷ []) (drop (first + 1) places))
      ∙ ap (λ l. l ++ drop (first + 1) places) (sym (ap (λ l. chain_in k table a l place) e ∙ cond-false (eqb place a) _ _ (ne_eqb place a s)))
      ∙ left
