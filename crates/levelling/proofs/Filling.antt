-- Shown: what each call of a closure that changes nothing gives holds of each item of the array that they make.
use Rattle.std.proofs.Common.{◌≡◌, ℕ, zero, suc, ◌+◌, ◌<◌, List, get_or, sym, refl, subst, arith}
use denote.Param.Members.{Mut, Called}
use Rattle.std.specs.Array.{IsFromFnResultFrom, IsFromFnResult}

module _ {F B : Type 0} (g : Mut F (ℕ × Unit {0}) B) (f : F) (P : ℕ → B → Type 0) (gives : (i : ℕ) (y : B) (q : F) → Called g f (i, tt) y q → (q ≡ f) × P i y) (ys : List B) where
  given : (i : ℕ) (y : B) (p q : F) → p ≡ f → Called g p (i, tt) y q → (q ≡ f) × P i y
  given i y p q e called = gives i y q (subst (λ (p : F). Called g p (i, tt) y q) e called)

  from : (i n : ℕ) (p : F) → p ≡ f → IsFromFnResultFrom g p ys i n → (x j : ℕ) (d : B) → j < n → x ≡ i + j → P x (get_or ys x d)
  from i zero p e made x j d w at = absurd (omega arith)
  from i (suc n) p e (q, y, is, called, rest) x zero d w at =
      let here : i ≡ x = omega arith in
      subst (λ (m : ℕ). P m (get_or ys m d)) here (subst (P i) (sym (is.1 d)) (given i y p q e called).1)
  from i (suc n) p e (q, y, is, called, rest) x (suc j) d w at = from (i + 1) n q (given i y p q e called).0 rest x j d (omega arith) (omega arith)

  pub filled : (n : ℕ) → IsFromFnResult g f ys n → (x : ℕ) (d : B) → x < n → P x (get_or ys x d)
  filled n made x d w = from 0 n f refl made.each x x d w (omega arith)
