-- Shown: a loop that shuts the places that pass a test, one after another, leaves exactly these shut.
use Rattle.std.proofs.Common.{◌≡◌, ℕ, ◌+◌, ◌<◌, Bool, true, false, cond, ◌&&◌, eqb, ltb, None, Result, sym, ap, ◌∙◌, ⊎_elim, arith}
use Rattle.std.proofs.lemmas.Bool.{and_left, and_right, lt-ltb, le-ltb, eq-eqb, ne_eqb, cases_eq, cases_lt, cond-true, cond-false}
use Rattle.ground.specs.declared.places.Places.{Places}
use Rattle.ground.specs.declared.refusal.Refusal.{Refusal}
use Rattle.ground.specs.Marks.{size_in, shut_in}
use Rattle.ground.specs.Shutting.{Marked, refuses_shut, with_place, unless_refused}

module _ (B : ℕ → Bool) (i : ℕ) where
  -- among the places below i and at i
  later : (k : ℕ) → (k ≡ i → ⊥) → ltb k i ≡ ltb k (i + 1)
  later k h = ⊎_elim (λ l. lt-ltb k i l ∙ sym (lt-ltb k (i + 1) (omega arith))) (λ l. le-ltb k i l ∙ sym (le-ltb k (i + 1) (omega arith))) (cases_lt k i)

  pub none_at : B i ≡ false → (k : ℕ) → (ltb k i && B k) ≡ (ltb k (i + 1) && B k)
  none_at e k =
      ⊎_elim (λ (q : k ≡ i). let f : B k ≡ false = ap B q ∙ e in and_right (ltb k i) (B k) f ∙ sym (and_right (ltb k (i + 1)) (B k) f))
      (λ q. ap (λ b. b && B k) (later k q))
      (cases_eq k i)

  one_at : B i ≡ true → (k : ℕ) → cond (eqb k i) true (ltb k i && B k) ≡ (ltb k (i + 1) && B k)
  one_at e k =
      ⊎_elim (λ (q : k ≡ i). let f : B k ≡ true = ap B q ∙ e in let l = lt-ltb k (i + 1) (omega arith) in let t = eq-eqb k i q in rw (t, l, f))
      (λ q. cond-false (eqb k i) true _ (ne_eqb k i q) ∙ ap (λ b. b && B k) (later k q))
      (cases_eq k i)

  module _ (g : Places) (within : i < size_in g) (so_far : (k : ℕ) → shut_in g k ≡ (ltb k i && B k)) where
    accepted : refuses_shut (size_in g) (shut_in g) i ≡ None
    accepted =
        cond-true _ _ _ (lt-ltb i (size_in g) within) ∙ cond-false _ _ _ (so_far i ∙ and_left (ltb i i) (B i) (le-ltb i i (omega arith)))

    pub shut_at : (h : Places) (r : Result (Unit {0}) Refusal) →
        Marked size_in shut_in (refuses_shut (size_in g) (shut_in g) i) (with_place i (shut_in g)) g h r →
        B i ≡ true → (k : ℕ) → shut_in h k ≡ (ltb k (i + 1) && B k)
    shut_at h r m e k =
        ap (λ f. f k) (m.shut_now ∙ ap (λ o. unless_refused o (with_place i (shut_in g)) (shut_in g)) accepted)
        ∙ ap (λ b. cond (eqb k i) true b) (so_far k)
        ∙ one_at e k
