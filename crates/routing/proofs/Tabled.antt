-- Shown: what an array that is made place by place has at each place.
use Rattle.std.proofs.Common.{◌≡◌, ℕ, zero, suc, ◌+◌, ◌<◌, ◌≤◌, List, get_or, inl, inr, ◌∙◌, subst, arith}
use Rattle.std.proofs.lemmas.Bool.{cases_eq}
use Rattle.std.specs.Array.{IsFromFnResult, IsFromFnResultFrom}
use denote.Param.Members.{Mut, Called}

module _ {F B : Type 0} (g : Mut F (ℕ × Unit {0}) B) (f : F) (h : ℕ → B) (ys : List B) (d : B) where
  from : (m i : ℕ) → IsFromFnResultFrom g f ys i m →
      ((j : ℕ) (y : B) (q : F) → j < i + m → Called g f (j, tt) y q → (q ≡ f) × (y ≡ h j)) →
      (x : ℕ) → i ≤ x → x < i + m → get_or ys x d ≡ h x
  from zero i e answers x l u = absurd (omega arith)
  from (suc m) i (q, y, at, called, rest) answers x l u =
      let a = answers i y q (omega arith) called in
      elim (cases_eq x i) [
        | inl s ↦ rw s (at.1 d ∙ a.1)
        | inr s ↦ from m (i + 1) (subst (λ p. IsFromFnResultFrom g p ys (i + 1) m) a.0 rest)
            (λ j z r v c. answers j z r (omega arith) c) x (omega arith) (omega arith)
      ]

  -- the calls leave the function as it is
  pub from_each : (n : ℕ) → IsFromFnResult g f ys n →
      ((j : ℕ) (y : B) (q : F) → j < n → Called g f (j, tt) y q → (q ≡ f) × (y ≡ h j)) → (x : ℕ) → x < n → get_or ys x d ≡ h x
  from_each n e answers x u = from n 0 e.each (λ j z r v c. answers j z r (omega arith) c) x (omega arith) (omega arith)
