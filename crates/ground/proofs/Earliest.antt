-- Shown: a loop that asks at 0, 1, .. and stops at the first answer gives the earliest.
use Rattle.std.proofs.Common.{◌≡◌, ℕ, zero, suc, ◌+◌, ◌<◌, Some, None, Option, sym, ap, ◌∙◌, ⊎_elim, add-one, arith}
use Rattle.std.proofs.lemmas.Bool.{cases_eq}
use Rattle.ground.specs.Earliest.{or_else, earliest}

module _ {A : Type 0} (f : ℕ → Option A) where
  -- none at 0, 1, .., i - 1 and none at i
  pub none_more : (i : ℕ) → earliest f i ≡ None → f i ≡ None → earliest f (i + 1) ≡ None
  none_more i e h = rw add-one (rw (e, h))

  -- none at 0, 1, .., i - 1 and x at i
  pub found_at : (n i : ℕ) (x : A) → earliest f i ≡ None → f i ≡ Some x → i < n → earliest f n ≡ Some x
  found_at zero i x e h l = absurd (omega arith)
  found_at (suc n) i x e h l =
      ⊎_elim (λ (q : i ≡ n). ap (λ k. or_else (earliest f k) (f k)) (sym q) ∙ rw (e, h))
      (λ q. rw (found_at n i x e h (omega arith)))
      (cases_eq i n)
