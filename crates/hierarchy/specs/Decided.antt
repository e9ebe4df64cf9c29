-- Shown: equality of numbers is decided, and so is that a fact fails, and one fact or another, where these are.
use Rattle.std.specs.Prelude.{◌≡◌, ℕ, ◌⊎◌, ◌==◌}
use Rattle.std.proofs.Common.{inl, inr}
use Rattle.std.proofs.lemmas.Bool.{eqb-true, eq-eqb}
use Rattle.hierarchy.specs.Deciders.{decide}

abbrev pub same? : (x y : ℕ) → Dec (x ≡ y)
same? x y = decide (x == y) (eqb-true x y) (eq-eqb x y)

pub neither : {P Q : Type 0} → (P → ⊥) → (Q → ⊥) → P ⊎ Q → ⊥
neither f g (inl p) = f p
neither f g (inr q) = g q

abbrev pub either? : {P Q : Type 0} → Dec P → Dec Q → Dec (P ⊎ Q)
either? (yes p) d = yes (inl p)
either? (no f) (yes q) = yes (inr q)
either? (no f) (no g) = no (neither f g)

abbrev pub none? : {P : Type 0} → Dec P → Dec (¬ P)
none? (yes p) = no (λ f. f p)
none? (no f) = yes f
