-- Shown: a way is a walk, and walks join.
use Rattle.std.proofs.Common.{◌≡◌, ℕ, eqb, List, [], ◌∷◌, ◌++◌, Some, refl, ap, ◌∙◌, eqb→eq}
use lib.Dec.{eqb_refl}
use Rattle.hierarchy.specs.Kinds.{Kind, Price, add}
use Rattle.hierarchy.specs.Walks.{end, along}
use Rattle.hierarchy.specs.Scales.{scale, scale_laws}
use Rattle.hierarchy.specs.Shortest.{end-append, total-append, zero_r}

module _ (K : Kind) (way : ℕ → ℕ → Price K) where
  -- the places l lead from a to b at cost c
  abbrev pub Goes : ℕ → ℕ → K.C → List ℕ → Type 0
  Goes a b c l = (end a l ≡ b) × (along K way a l ≡ Some c)

  pub goes_step : (a b : ℕ) (c : K.C) → way a b ≡ Some c → Goes a b c (b ∷ [])
  goes_step a b c e = (refl, ap (λ p. add K p (Some K.zero)) e ∙ zero_r (scale K) (scale_laws K) (Some c))

  pub goes_on : (a b z : ℕ) (c d : K.C) (l m : List ℕ) → Goes a b c l → Goes b z d m → Goes a z (K.plus c d) (l ++ m)
  goes_on a b z c d l m (e, f) (g, h) = (
    end-append a l m ∙ ap (λ x. end x m) e ∙ g,
    total-append (scale K) (scale_laws K) eqb eqb_refl eqb→eq way a l m ∙ (λ i. add K (f i) (along K way (e i) m)) ∙ ap (add K (Some c)) h,
  )
