-- Shown: a property that one number more has counts one more, and one that counts all is had by all.
use Rattle.std.proofs.Common.{◌≡◌, ℕ, zero, suc, ◌+◌, ◌<◌, ◌≤◌, Bool, true, false, cond, ◌||◌, eqb, sym, refl, ap, subst, ⊎_elim, arith}
use Rattle.std.proofs.lemmas.Bool.{cases_eq, eq-eqb, ne_eqb}
use Rattle.ground.specs.Counts.{count}

pub each_more : (P : ℕ → Type 0) (n : ℕ) → ((x : ℕ) → x < n → P x) → P n → (x : ℕ) → x < suc n → P x
each_more P n below here x h = ⊎_elim (λ e. subst P (sym e) here) (λ d. below x (omega arith)) (cases_eq x n)

one_at_most : (t : Bool) → cond t 1 0 ≤ 1
one_at_most true = omega arith
one_at_most false = omega arith

pub count_bound : (p : ℕ → Bool) (n : ℕ) → count p n ≤ n
count_bound p zero = omega arith
count_bound p (suc n) = omega (arith, count_bound p n, one_at_most (p n))

pub count_full : (p : ℕ → Bool) (n : ℕ) → n ≤ count p n → (x : ℕ) → x < n → p x ≡ true
count_full p zero h = λ x k. absurd (omega arith)
count_full p (suc n) h = go (count_full p n) (p n) refl h
  where
    go : (n ≤ count p n → (x : ℕ) → x < n → p x ≡ true) → (t : Bool) → p n ≡ t → suc n ≤ count p n + cond t 1 0 → (x : ℕ) → x < suc n → p x ≡ true
    go rest true e h = each_more (λ x. p x ≡ true) n (rest (omega arith)) e
    go rest false e h = absurd (omega (arith, count_bound p n))

module _ (p : ℕ → Bool) (v : ℕ) where
  abbrev with_v : ℕ → Bool
  with_v x = eqb x v || p x

  apart : (x : ℕ) → (x ≡ v → ⊥) → with_v x ≡ p x
  apart x d = ap (λ t. t || p x) (ne_eqb x v d)

  count_same : (n : ℕ) → n ≤ v → count with_v n ≡ count p n
  count_same zero h = refl
  count_same (suc n) h = λ i. count_same n (omega arith) i + cond (apart n (omega arith) i) 1 0

  pub count-one_more : p v ≡ false → (n : ℕ) → v < n → count with_v n ≡ suc (count p n)
  count-one_more e zero h = absurd (omega arith)
  count-one_more e (suc n) h = ⊎_elim at (λ d. rw (apart n (λ f. d (sym f))) (omega (arith, count-one_more e n (omega arith)))) (cases_eq v n)
    where
      at : v ≡ n → count with_v n + cond (with_v n) 1 0 ≡ suc (count p n + cond (p n) 1 0)
      at d = rw (eq-eqb n v (sym d), subst (λ z. p z ≡ false) d e) (omega (arith, count_same n (omega arith)))
