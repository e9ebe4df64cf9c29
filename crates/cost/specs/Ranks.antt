-- Shown: costs that have ranks, numbers up to a top to which sums keep, have the laws of costs.
use Rattle.std.specs.Prelude.{◌≡◌, ℕ, ◌+◌, ◌*◌, ◌<◌, ◌≤◌, min, Bool, true, false, ◌⊎◌, List, [], ◌∷◌, length, ◌≢◌, nat_lt}
use Rattle.std.proofs.Common.{sym, ap, ◌∙◌, ⊎_elim, arith, mul-le-mul_left}
use Rattle.std.proofs.lemmas.Bool.{and_parts, ltb-true, ltb-false, lt-ltb, le-ltb, cases_lt}
use Rattle.cost.specs.Laws.{CostLaws, total, all_ways}

pub record Ranked {C : Type 0} (zero over : C) (plus : C → C → C) (less : C → C → Bool) (way : C → Bool) (rank : C → ℕ) (top most : ℕ) : Type 0 where
  pub one : (a b : C) → rank a ≡ rank b → a ≡ b
  pub at_most : (a : C) → rank a ≤ top
  pub zero_rank : rank zero ≡ 0
  pub over-rank : rank over ≡ top
  pub plus-rank : (a b : C) → rank (plus a b) ≡ min (rank a + rank b) top
  pub less-rank : (a b : C) → less a b ≡ nat_lt (rank a) (rank b)
  pub way-rank : (a : C) → way a ≡ true → (0 < rank a) × (rank a ≤ most)
  pub enough : 255 * most < top

module _ {C : Type 0} {zero over : C} {plus : C → C → C} {less : C → C → Bool} {way : C → Bool} {rank : C → ℕ} {top most : ℕ}
    (r : Ranked zero over plus less way rank top most) where
  below : (a b : C) → less a b ≡ true → rank a < rank b
  below a b h = ltb-true _ _ (sym (r.less-rank a b) ∙ h)

  not-below : (a b : C) → less a b ≡ false → rank b ≤ rank a
  not-below a b h = ltb-false _ _ (sym (r.less-rank a b) ∙ h)

  is_less : (a b : C) → rank a < rank b → less a b ≡ true
  is_less a b h = r.less-rank a b ∙ lt-ltb _ _ h

  not_less : (a b : C) → rank b ≤ rank a → less a b ≡ false
  not_less a b h = r.less-rank a b ∙ le-ltb _ _ h

  below_top : (a : C) → (a ≢ over) → rank a < top
  below_top a h = ⊎_elim (λ k. k) (λ k. absurd (h (r.one a over (omega (arith, r.over-rank, r.at_most a))))) (cases_lt (rank a) top)

  total-rank : (ws : List C) → all_ways way ws ≡ true → rank (total zero plus ws) ≤ most * length ws
  total-rank [] h = omega (arith, r.zero_rank)
  total-rank (w ∷ ws) h =
      let p = and_parts (way w) (all_ways way ws) h in
      let q = r.way-rank w p.0 in
      let k = total-rank ws p.1 in
      omega (arith, r.plus-rank w (total zero plus ws))

  pub laws_by_rank : (word : C → ℕ) (unword : ℕ → C) → ((a : C) → unword (word a) ≡ a) → ((n : ℕ) → (unword n ≡ over) ⊎ (word (unword n) ≡ n)) →
      CostLaws zero over plus less way word unword
  laws_by_rank word unword back other = record {
    trichotomy = λ a b p q. r.one a b (omega (arith, not-below a b p, not-below b a q));
    irreflexive = λ a. not_less a a (omega arith);
    one_way = λ a b p. not_less b a (omega (arith, below a b p));
    transitive = λ a b c p q. is_less a c (omega (arith, below a b p, below b c q));
    zero-least = λ a. not_less a zero (omega (arith, r.zero_rank));
    over_greatest = λ a. not_less over a (omega (arith, r.over-rank, r.at_most a));
    plus_comm = λ a b. r.one _ _ (omega (arith, r.plus-rank a b, r.plus-rank b a));
    plus_assoc = λ a b c. r.one _ _ (omega (arith, r.plus-rank a b, r.plus-rank b c, r.plus-rank (plus a b) c, r.plus-rank a (plus b c)));
    plus-zero = λ a. r.one _ _ (omega (arith, r.plus-rank zero a, r.zero_rank, r.at_most a));
    plus-over = λ a. r.one _ _ (omega (arith, r.plus-rank over a, r.over-rank));
    monotone = λ a b c p. not_less _ _ (omega (arith, not-below b a p, r.plus-rank b c, r.plus-rank a c));
    grows = λ a w p q. is_less _ _ (omega (arith, r.way-rank w p, r.plus-rank a w, below_top _ q));
    reaches = λ ws l h e. omega (arith, total-rank ws h, mul-le-mul_left most l, r.enough, r.over-rank, ap rank e);
    word_back = back;
    word_other = λ n h. ⊎_elim (λ e. e) (λ e. absurd (h (unword n) e)) (other n);
  }
