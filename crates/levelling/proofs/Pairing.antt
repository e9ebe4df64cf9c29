-- Shown: how the pairs of neighbours that pass a test follow one another.
--   after  the places from f on that are near
--   outer  the pairs that are left before the first place is f
--   inner  the pairs that are left when the first place is f, before the second is s
use Rattle.std.proofs.Common.{◌≡◌, ℕ, ◌+◌, ◌<◌, ◌≤◌, Bool, true, false, cond, List, [], ◌∷◌, ◌++◌, map, drop, refl, ap, ◌∙◌, arith}
use Rattle.std.proofs.lemmas.List.{drop_more, drop_all}
use Rattle.std.proofs.lemmas.Bool.{cond-true, cond-false}
use Rattle.hierarchy.specs.Shortest.{below}
use Rattle.hierarchy.specs.Levels.{select, pairs}
use Rattle.frontier.proofs.Renewals.{length-below, get_or-below}

select-append : {A : Type 0} (q : A → Bool) (l m : List A) → select q (l ++ m) ≡ select q l ++ select q m
select-append q [] m = refl
select-append q (x ∷ l) m = go (q x) (select-append q l m)
  where
    go : (t : Bool) → select q (l ++ m) ≡ select q l ++ select q m → cond t (x ∷ select q (l ++ m)) (select q (l ++ m)) ≡ cond t (x ∷ select q l) (select q l) ++ select q m
    go true e = ap (λ r. x ∷ r) e
    go false e = e

module _ (n : ℕ) (p : ℕ → Bool) (q : ℕ × ℕ → Bool) where
  abbrev after : ℕ → List ℕ
  after f = select p (drop f (below n))

  abbrev pub outer : ℕ → List (ℕ × ℕ)
  outer f = select q (pairs (after f))

  abbrev pub inner : ℕ → ℕ → List (ℕ × ℕ)
  inner f s = select q (map (λ y. (f, y)) (after s)) ++ outer (f + 1)

  next : (f : ℕ) → f < n → drop f (below n) ≡ f ∷ drop (f + 1) (below n)
  next f h = drop_more (below n) f 0 (omega (arith, length-below n)) ∙ ap (λ x. x ∷ drop (f + 1) (below n)) (get_or-below n f 0 h)

  after_near : (f : ℕ) → f < n → p f ≡ true → after f ≡ f ∷ after (f + 1)
  after_near f h e = ap (select p) (next f h) ∙ cond-true (p f) _ _ e

  after_far : (f : ℕ) → f < n → p f ≡ false → after f ≡ after (f + 1)
  after_far f h e = ap (select p) (next f h) ∙ cond-false (p f) _ _ e

  after_all : (f : ℕ) → n ≤ f → after f ≡ []
  after_all f h = ap (select p) (drop_all f (below n) (omega (arith, length-below n)))

  pub enters : (f : ℕ) → f < n → p f ≡ true → outer f ≡ inner f (f + 1)
  enters f h e = ap (λ l. select q (pairs l)) (after_near f h e) ∙ select-append q (map (λ y. (f, y)) (after (f + 1))) (pairs (after (f + 1)))

  pub passes : (f : ℕ) → f < n → p f ≡ false → outer f ≡ outer (f + 1)
  passes f h e = ap (λ l. select q (pairs l)) (after_far f h e)

  pub takes : (f s : ℕ) → s < n → p s ≡ true → q (f, s) ≡ true → inner f s ≡ (f, s) ∷ inner f (s + 1)
  takes f s h e t =
      ap (λ l. select q (map (λ y. (f, y)) l) ++ outer (f + 1)) (after_near s h e)
      ∙ ap (λ l. l ++ outer (f + 1)) (cond-true (q (f, s)) _ (select q (map (λ y. (f, y)) (after (s + 1)))) t)

  pub skips_far : (f s : ℕ) → s < n → p s ≡ false → inner f s ≡ inner f (s + 1)
  skips_far f s h e = ap (λ l. select q (map (λ y. (f, y)) l) ++ outer (f + 1)) (after_far s h e)

  pub skips : (f s : ℕ) → s < n → p s ≡ true → q (f, s) ≡ false → inner f s ≡ inner f (s + 1)
  skips f s h e t =
      ap (λ l. select q (map (λ y. (f, y)) l) ++ outer (f + 1)) (after_near s h e)
      ∙ ap (λ l. l ++ outer (f + 1)) (cond-false (q (f, s)) _ (select q (map (λ y. (f, y)) (after (s + 1)))) t)

  pub leaves : (f s : ℕ) → n ≤ s → inner f s ≡ outer (f + 1)
  leaves f s h = ap (λ l. select q (map (λ y. (f, y)) l) ++ outer (f + 1)) (after_all s h)

  pub ends : (f : ℕ) → n ≤ f → outer f ≡ []
  ends f h = ap (λ l. select q (pairs l)) (after_all f h)
