-- Shown: the pairs that are needed are those that need a shortcut.
use Rattle.std.specs.Prelude.{◌≡◌, ℕ, ◌+◌, Bool, true, false, cond, not, List, [], ◌∷◌, refl}
use Rattle.std.proofs.Common.{sym, ◌∙◌, ⊎_elim}
use mathlib.Core.List.{filter}
use Rattle.std.proofs.lemmas.Bool.{cases_Bool}
use Rattle.hierarchy.specs.Kinds.{Kind}
use Rattle.hierarchy.specs.Lands.{Land}
use Rattle.hierarchy.specs.Books.{Book, link}
use Rattle.hierarchy.specs.Deciders.{decide, decided, decided-true, decided-false}
use Rattle.hierarchy.specs.Decided.{none?}
use Rattle.hierarchy.specs.Linked.{inside_link}
use Rattle.hierarchy.specs.Keeping.{NeedIsTested}
use Rattle.hierarchy.specs.Levels.{Needs, is_needed, needed, near, pairs, select, by_way_of}
use Rattle.hierarchy.proofs.Lists.{filter-select}
use Rattle.hierarchy.proofs.Phases.{round?}

decided-none : {P : Type 0} (t : Bool) (f : t ≡ true → P) (g : P → t ≡ true) → decided (none? (decide t f g)) ≡ not t
decided-none true f g = refl
decided-none false f g = refl

select-alike : {A : Type 0} (p q : A → Bool) → ((x : A) → p x ≡ q x) → (l : List A) → select p l ≡ select q l
select-alike p q e [] = refl
select-alike p q e (x ∷ l) = λ i. cond (e x i) (x ∷ select-alike p q e l i) (select-alike p q e l i)

module _ {K : Kind} (land : Land K) (i : ℕ) (book : Book K) (v : ℕ) where
  abbrev pub needs? : (p : ℕ × ℕ) → Dec (Needs land i book v p)
  needs? p = none? (round? K (link land book) book.level (i + 1) v land.size (inside_link land book) p.0 p.1 (by_way_of land book v p.0 p.1))

  is_needed-decided : (p : ℕ × ℕ) → decided (needs? p) ≡ is_needed land i book v p
  is_needed-decided p = decided-none _ _ _

  pub needed_needs : (p : ℕ × ℕ) → is_needed land i book v p ≡ true → Needs land i book v p
  needed_needs p h = decided-true (needs? p) (is_needed-decided p ∙ h)

  pub other_needs_not : (p : ℕ × ℕ) → is_needed land i book v p ≡ false → ¬ (Needs land i book v p)
  other_needs_not p h = decided-false (needs? p) (is_needed-decided p ∙ h)

  pub needed-filter : needed land i book v ≡ filter needs? (pairs (near land i book v))
  needed-filter = select-alike (is_needed land i book v) (λ p. decided (needs? p)) (λ p. sym (is_needed-decided p)) (pairs (near land i book v)) ∙ sym (filter-select needs? (pairs (near land i book v)))

pub need_is_tested : {K : Kind} (land : Land K) → NeedIsTested land
need_is_tested land i book v p = (
  needed_needs land i book v p,
  λ needs. ⊎_elim (λ t. t) (λ f. absurd (other_needs_not land i book v p f needs)) (cases_Bool (is_needed land i book v p)),
)
