-- Shown: a walk that passes a place twice costs at least one way more than some walk that passes no place twice.
--   Onward  a walk from v that ends where the walk from y over l ends, costs no more and passes no place twice
--   Cut     a walk as from a over l that with one way more costs no more, and passes no place twice
use Rattle.std.proofs.Common.{◌≡◌, ℕ, ◌≢◌, ◌⊎◌, List, [], ◌∷◌, refl, ◌∙◌, subst, inl, inr, ⊎_elim}
use Rattle.std.proofs.lemmas.Bool.{cases_eq}
use Rattle.hierarchy.specs.Kinds.{Kind, Price, add}
use Rattle.hierarchy.specs.Walks.{end, along}
use Rattle.hierarchy.specs.Scales.{scale_laws}
use Rattle.hierarchy.specs.Chains.{Without}
use Rattle.hierarchy.specs.LeastWalks.{Distinct}
use Rattle.hierarchy.proofs.Prices.{Le, le_refl, le_trans, le-add, le_more_l, le_more_r, same_le}

module _ (K : Kind) (w : ℕ → ℕ → Price K) where
  abbrev pub Onward : ℕ → ℕ → List ℕ → Type 0
  Onward v y l = (q : List ℕ) × (end v q ≡ end y l) × Le K (along K w v q) (along K w y l) × Distinct (v ∷ q)

  abbrev pub Cut : ℕ → List ℕ → Type 0
  Cut a l = (x : ℕ) × (y : ℕ) × (q : List ℕ) × (end a q ≡ end a l) × Le K (add K (along K w a q) (w x y)) (along K w a l) × Distinct (a ∷ q)

  from_here : (v y : ℕ) (l : List ℕ) → Distinct (y ∷ l) → y ≡ v → Onward v y l
  from_here v y l d e = subst (λ z. Onward z y l) e (l, refl, le_refl, d)

  -- a walk does not pass v, or goes on from there
  onward : (v y : ℕ) (l : List ℕ) → Distinct (y ∷ l) → Without v (y ∷ l) ⊎ Onward v y l
  onward v y [] d = ⊎_elim (λ e. inr (from_here v y [] d e)) (λ n. inl (n, tt)) (cases_eq y v)
  onward v y (x ∷ l) d = go (onward v x l d.1) (cases_eq y v)
    where
      go : Without v (x ∷ l) ⊎ Onward v x l → (y ≡ v) ⊎ (y ≢ v) → Without v (y ∷ x ∷ l) ⊎ Onward v y (x ∷ l)
      go r (inl e) = inr (from_here v y (x ∷ l) d e)
      go (inl o) (inr n) = inl (n, o)
      go (inr (q, e, h, s)) (inr n) = inr (q, e, le_trans h (le_more_l (w y x) (along K w x l)), s)

  -- a walk from y that comes back to a, after the way from a to y
  closed : (a y : ℕ) (l p : List ℕ) → end y p ≡ end y l → Le K (along K w y p) (along K w y l) → Onward a y p → Cut a (y ∷ l)
  closed a y l p f g (q, e, h, s) =
      (a, y, q, e ∙ f, le_trans (same_le ((scale_laws K).comm (along K w a q) (w a y))) (le-add le_refl (le_trans h g)), s)

  pub cut : (a : ℕ) (l : List ℕ) → Distinct (a ∷ l) ⊎ Cut a l
  cut a [] = inl (tt, tt)
  cut a (y ∷ l) = go (cut y l)
    where
      go : Distinct (y ∷ l) ⊎ Cut y l → Distinct (a ∷ y ∷ l) ⊎ Cut a (y ∷ l)
      go (inl d) = ⊎_elim (λ o. inl (o, d)) (λ r. inr (closed a y l l refl le_refl r)) (onward a y l d)
      go (inr (u, v, p, e, h, d)) =
          inr (⊎_elim
          (λ o. (u, v, y ∷ p, e, le_trans (same_le ((scale_laws K).assoc (w a y) (along K w y p) (w u v))) (le-add le_refl h), (o, d)))
          (closed a y l p e (le_trans (le_more_r (along K w y p) (w u v)) h)) (onward a y p d))

  -- some walk between the same ends that passes no place twice costs no more
  pub simple : (a : ℕ) (l : List ℕ) → Onward a a l
  simple a l = ⊎_elim (λ d. (l, refl, le_refl, d)) (λ (u, v, q, e, h, d). (q, e, le_trans (le_more_r (along K w a q) (w u v)) h, d)) (cut a l)
