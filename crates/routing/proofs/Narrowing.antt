-- Shown: the links that lead to marked places are those that lead to relevant ones, where the marks are by climbing, ends and top.
use Rattle.std.proofs.Common.{◌≡◌, ℕ, ◌<◌, ◌≤◌, Bool, true, false, cond, not, ◌||◌, eqb, ltb, List, get_or, None, Option, sym, refl, ap, ◌∙◌, inl, inr, ⊎_elim}
use mathlib.Core.Path.{fun_ext}
use Rattle.std.proofs.lemmas.Bool.{cases_Bool, cases_lt, or_cases, or_left, or_right, and_left, and_right, le-ltb, eqb-true, eq-eqb, cond-false}
use Rattle.hierarchy.specs.Kinds.{Kind}
use Rattle.hierarchy.specs.Lands.{Land}
use Rattle.hierarchy.specs.Books.{Book, link}
use Rattle.hierarchy.specs.Searches.{Relevant, relevant, links}
use Rattle.hierarchy.proofs.SearchRelevant.{relevant-true, true-relevant}
use Rattle.routing.specs.Climbed.{MarksClimbs}
use Rattle.routing.specs.Narrowed.{narrowed, marked}

same_tests : (s t : Bool) → (s ≡ true → t ≡ true) → (t ≡ true → s ≡ true) → s ≡ t
same_tests true t f g = sym (f refl)
same_tests false t f g = ⊎_elim (λ e. g e ∙ sym e) sym (cases_Bool t)

none_either_way : {A : Type 0} (s t : Bool) (p : Option A) → p ≡ None → cond s p None ≡ cond t p None
none_either_way true true p e = refl
none_either_way true false p e = e
none_either_way false true p e = sym e
none_either_way false false p e = refl

link_beyond : {K : Kind} (land : Land K) (book : Book K) (v x : ℕ) → land.size ≤ x → link land book v x ≡ None
link_beyond land book v x h = cond-false _ _ None (and_right (ltb v land.size) _ (and_left (ltb x land.size) (not (eqb v x)) (le-ltb x land.size h)))

pub links_beyond : {K : Kind} (land : Land K) (book : Book K) (top a b v x : ℕ) → land.size ≤ x → links land book top a b v x ≡ None
links_beyond land book top a b v x h = none_either_way (relevant land book top a b x) false (link land book v x) (link_beyond land book v x h)

module _ {K : Kind} (land : Land K) (book : Book K) (top a b : ℕ) (first second marks : List Bool)
    (from_a : MarksClimbs land.size book a first) (from_b : MarksClimbs land.size book b second)
    (marks-as : (x : ℕ) → x < land.size → get_or marks x false ≡ marked book top a b first second x) where
  marks-relevant : (x : ℕ) → x < land.size → get_or marks x false ≡ true → Relevant land book top a b x
  marks-relevant x h e =
      ⊎_elim (λ c. inr (inr (⊎_elim (λ f. inl ((from_a x h).0 f)) (λ f. inr ((from_b x h).0 f)) (or_cases (get_or first x false) _ c))))
      (λ c. ⊎_elim (λ d. inl (⊎_elim (λ f. inl (eqb-true x a f)) (λ f. inr (eqb-true x b f)) (or_cases (eqb x a) _ d)))
      (λ t. inr (inl (eqb-true _ _ t))) (or_cases (eqb x a || eqb x b) _ c))
      (or_cases (get_or first x false || get_or second x false) _ (sym (marks-as x h) ∙ e))

  relevant-marked : (x : ℕ) → x < land.size → Relevant land book top a b x → get_or marks x false ≡ true
  relevant-marked x h (inl (inl e)) =
      marks-as x h ∙ or_right (get_or first x false || get_or second x false) _ (or_left (eqb x a || eqb x b) _ (or_left (eqb x a) _ (eq-eqb x a e)))
  relevant-marked x h (inl (inr e)) =
      marks-as x h ∙ or_right (get_or first x false || get_or second x false) _ (or_left (eqb x a || eqb x b) _ (or_right (eqb x a) _ (eq-eqb x b e)))
  relevant-marked x h (inr (inl t)) =
      marks-as x h ∙ or_right (get_or first x false || get_or second x false) _ (or_right (eqb x a || eqb x b) _ (eq-eqb _ _ t))
  relevant-marked x h (inr (inr (inl c))) = marks-as x h ∙ or_left _ _ (or_left _ _ ((from_a x h).1 c))
  relevant-marked x h (inr (inr (inr c))) = marks-as x h ∙ or_left _ _ (or_right (get_or first x false) _ ((from_b x h).1 c))

  pub narrowed-links : narrowed land.size book marks ≡ links land book top a b
  narrowed-links = fun_ext (λ v. fun_ext (λ x. ⊎_elim
      (λ h. ap (λ t. cond t (link land book v x) None)
      (same_tests (get_or marks x false) (relevant land book top a b x) (λ e. true-relevant land book top a b x (marks-relevant x h e))
      (λ e. relevant-marked x h (relevant-true land book top a b x e))))
      (λ h. none_either_way (get_or marks x false) (relevant land book top a b x) (link land book v x) (link_beyond land book v x h)) (cases_lt x land.size)))
