-- Shown: what is marked once one place is, once the places to which a place goes up are, and once those of a whole level are.
--   MarksBelow  of the places below i, those to which p goes up are marked besides
use Rattle.std.proofs.Common.{◌≡◌, ℕ, ◌+◌, ◌<◌, ◌≤◌, Bool, true, false, cond, not, ◌&&◌, ◌||◌, eqb, ltb, ◌⊎◌, List, length, get_or, set, replicate, is_some, Some, None, Option, sym, refl, ap, ◌∙◌, subst, inl, inr, ⊎_elim, arith, length-set, get_or-set_other, get_or-set_same}
use lib.ListN.{length-replicate, get_or-replicate}
use Rattle.std.proofs.lemmas.Bool.{true≢false, cases_eq, and_parts, and_from, or_cases, or_left, or_right, and_left, cases_lt, ltb-true, lt-ltb, le-ltb, eq-eqb, ne_eqb}
use Rattle.std.proofs.lemmas.List.{get_or_past}
use Rattle.hierarchy.specs.Kinds.{Kind}
use Rattle.hierarchy.specs.Books.{Book, link_among}
use Rattle.routing.specs.Climbed.{goes_up, GoesUpTo, MarksFrom, MarksLevel}

some_if : {A : Type 0} (t : Bool) (p : Option A) → is_some (cond t p None) ≡ true → (t ≡ true) × (c : A) × (cond t p None ≡ Some c)
some_if true (Some c) h = (refl, c, refl)
some_if true None h = absurd (true≢false (sym h))
some_if false p h = absurd (true≢false (sym h))

and_false : (t : Bool) → (t && false) ≡ false
and_false true = refl
and_false false = refl

ltb_more : (x i : ℕ) → (x ≡ i → ⊥) → ltb x i ≡ ltb x (i + 1)
ltb_more x i d = elim (cases_lt x i) [
  | inl h ↦ lt-ltb x i h ∙ sym (lt-ltb x (i + 1) (omega arith))
  | inr h ↦ le-ltb x i h ∙ sym (le-ltb x (i + 1) (omega arith))
]

pub none_marked : (n p x : ℕ) → n ≤ p → get_or (replicate n false) x false ≡ (ltb x n && eqb x p)
none_marked n p x h = elim (cases_lt x n) [
  | inl k ↦ get_or-replicate n x false false k ∙ sym (ap (λ t. ltb x n && t) (ne_eqb x p (λ e. omega arith)) ∙ and_false (ltb x n))
  | inr k ↦ get_or_past (replicate n false) x false (rw length-replicate k) ∙ sym (and_left (ltb x n) _ (le-ltb x n k))
]

pub one-marked : (n p x : ℕ) → p < n → get_or (set (replicate n false) p true) x false ≡ (ltb x n && eqb x p)
one-marked n p x h = elim (cases_eq x p) [
  | inl e ↦ rw e (get_or-set_same (replicate n false) p true false (rw length-replicate h) ∙ sym (and_from (ltb p n) _ (lt-ltb p n h) (eq-eqb p p refl)))
  | inr e ↦ get_or-set_other (replicate n false) p x true false e ∙ none_marked n (x + n + 1) x (omega arith) ∙
      ap (λ t. ltb x n && t) (ne_eqb x (x + n + 1) (λ d. omega arith) ∙ sym (ne_eqb x p e))
]

module _ {K : Kind} (n : ℕ) (book : Book K) where
  pub up_parts : (a x : ℕ) → goes_up n book a x ≡ true → (a < n) × (x < n) × (book.level a < book.level x) × (c : K.C) × (link_among n book a x ≡ Some c)
  up_parts a x h =
      let p = and_parts (ltb (book.level a) (book.level x)) _ h in
      let q = some_if (ltb a n && (ltb x n && not (eqb a x))) _ p.1 in
      let r = and_parts (ltb a n) _ q.0 in
      (ltb-true a n r.0, ltb-true x n (and_parts (ltb x n) _ r.1).0, ltb-true _ _ p.0, q.1, q.2)

  pub up_from : (a x : ℕ) (c : K.C) → book.level a < book.level x → link_among n book a x ≡ Some c → goes_up n book a x ≡ true
  up_from a x c h e = and_from (ltb (book.level a) (book.level x)) _ (lt-ltb _ _ h) (ap is_some e)

  abbrev pub MarksBelow : ℕ → ℕ → List Bool → List Bool → Type 0
  MarksBelow p i before now = (x : ℕ) → get_or now x false ≡ (get_or before x false || (ltb x i && goes_up n book p x))

  module _ (p i : ℕ) (before now : List Bool) where
    pub below_skip : false ≡ goes_up n book p i → MarksBelow p i before now → MarksBelow p (i + 1) before now
    below_skip e m x = m x ∙ ap (λ t. get_or before x false || t) (elim (cases_eq x i) [
      | inl d ↦ let f : goes_up n book p x ≡ false = ap (goes_up n book p) d ∙ sym e in rw f (and_false (ltb x i) ∙ sym (and_false (ltb x (i + 1))))
      | inr d ↦ ap (λ t. t && goes_up n book p x) (ltb_more x i d)
    ])

    pub below_mark : (after : List Bool) → after ≡ set now i true → i < length after → true ≡ goes_up n book p i → MarksBelow p i before now → MarksBelow p (i + 1) before after
    below_mark after a w e m x = ap (λ l. get_or l x false) a ∙ elim (cases_eq x i) [
      | inl d ↦ rw d (get_or-set_same now i true false (omega (arith, simp length-set at (ap length a))) ∙
          sym (or_right (get_or before i false) _ (and_from (ltb i (i + 1)) _ (lt-ltb _ _ (omega arith)) (sym e))))
      | inr d ↦ get_or-set_other now i x true false d ∙ m x ∙ ap (λ t. get_or before x false || (t && goes_up n book p x)) (ltb_more x i d)
    ]

  module _ (l i : ℕ) (before : List Bool) where
    also : (x : ℕ) → GoesUpTo n book l i before x → GoesUpTo n book l (i + 1) before x
    also x q = (q.0, omega (arith, q.1), q.2, q.3, q.4)

    -- the place that goes up is one below i, or it is i
    either : (x : ℕ) → GoesUpTo n book l (i + 1) before x →
        GoesUpTo n book l i before x ⊎ ((book.level i ≡ l) × (get_or before i false ≡ true) × (goes_up n book i x ≡ true))
    either x q = elim (cases_eq q.0 i) [
      | inl e ↦ inr (subst (λ p. (book.level p ≡ l) × (get_or before p false ≡ true) × (goes_up n book p x ≡ true)) e (q.2, q.3, q.4))
      | inr e ↦ inl (q.0, omega (arith, q.1), q.2, q.3, q.4)
    ]

    pub level_skip : (now : List Bool) → (book.level i ≡ l → get_or now i false ≡ false) → MarksLevel n book l i before now → MarksLevel n book l (i + 1) before now
    level_skip now s m x = (
      λ e. ⊎_elim (λ f. inl f) (λ q. inr (also x q)) ((m x).0 e),
      ⊎_elim (λ f. (m x).1 (inl f)) (λ q. ⊎_elim (λ d. (m x).1 (inr d)) (λ d. absurd (true≢false (sym ((m i).1 (inl d.1)) ∙ s d.0))) (either x q)),
    )

    pub level_more : (now after : List Bool) → book.level i ≡ l → get_or now i false ≡ true → MarksLevel n book l i before now →
        MarksFrom n book i now after → MarksLevel n book l (i + 1) before after
    level_more now after e t m f x = (
      λ h. ⊎_elim (λ k. ⊎_elim (λ g. inl g) (λ q. inr (also x q)) ((m x).0 k)) (λ u. inr (i, omega arith, e, marked-before, u)) (or_cases (get_or now x false) _ (sym (f x) ∙ h)),
      λ s. f x ∙ ⊎_elim (λ g. or_left _ _ ((m x).1 (inl g)))
          (λ q. ⊎_elim (λ d. or_left _ _ ((m x).1 (inr d))) (λ d. or_right (get_or now x false) _ d.2) (either x q)) s,
    )
      where
        -- no place of the level is newly marked
        marked-before : get_or before i false ≡ true
        marked-before = ⊎_elim (λ g. g) (λ q. absurd (let u = (up_parts q.0 i q.4).2 in omega (arith, q.2))) ((m i).0 t)
