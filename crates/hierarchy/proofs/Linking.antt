-- Shown: the shortcut found between two places is the only one that joins them, and every shortcut is a link.
use Rattle.std.proofs.Common.{◌≡◌, ℕ, zero, suc, ◌<◌, Bool, true, false, cond, not, ◌&&◌, eqb, ◌⊎◌, List, [], ◌∷◌, is_some, Some, None, sym, refl, ap, ◌∙◌, inl, inr, ⊎_elim, arith}
use mathlib.Core.Bool.{or_comm}
use Rattle.std.proofs.lemmas.Bool.{true≢false, and_parts, and_from, or_cases, or_left, lt-ltb, eqb-true, eq-eqb, ne_eqb, not_from_false, cond-true}
use Rattle.std.specs.List.{slice_get}
use Rattle.std.specs.Option.{option_map}
use Rattle.ground.specs.Earliest.{or_else}
use Rattle.hierarchy.specs.declared.Shortcut.{Shortcut}
use Rattle.hierarchy.specs.Kinds.{Kind, Price}
use Rattle.hierarchy.specs.Lands.{Land, on}
use Rattle.hierarchy.specs.Books.{Book, joins, shortcut_between, link}
use Rattle.hierarchy.specs.Levelled.{WellLevelled}

pub same_some : {A : Type 0} {x y : A} → Some x ≡ Some y → x ≡ y
same_some e = cc

pub none_some : {A P : Type 0} {x : A} → None ≡ Some x → P
none_some e = absurd (true≢false (sym (ap is_some e)))

module _ {C : Type 0} where
  joins-alike : (s : Shortcut C) (a b : ℕ) → joins s a b ≡ joins s b a
  joins-alike s a b = or_comm (eqb s.smaller a && eqb s.larger b) _

  ends : (s : Shortcut C) (a b : ℕ) → (eqb s.smaller a && eqb s.larger b) ≡ true → (s.smaller ≡ a) × (s.larger ≡ b)
  ends s a b h = let p = and_parts (eqb s.smaller a) _ h in (eqb-true _ _ p.0, eqb-true _ _ p.1)

  pub joins_ends : (s : Shortcut C) (a b : ℕ) → joins s a b ≡ true → ((s.smaller ≡ a) × (s.larger ≡ b)) ⊎ ((s.smaller ≡ b) × (s.larger ≡ a))
  joins_ends s a b h = ⊎_elim (λ k. inl (ends s a b k)) (λ k. inr (ends s b a k)) (or_cases (eqb s.smaller a && eqb s.larger b) _ h)

  joins_own : (s : Shortcut C) → joins s s.smaller s.larger ≡ true
  joins_own s = or_left _ _ (and_from _ _ (eq-eqb s.smaller _ refl) (eq-eqb s.larger _ refl))

  -- two that join the same places
  joins_both : (s t : Shortcut C) (a b : ℕ) → joins s a b ≡ true → joins t a b ≡ true → joins s t.smaller t.larger ≡ true
  joins_both s t a b h k =
      ⊎_elim (λ p. (λ i. joins s (p.0 i) (p.1 i)) ∙ h) (λ p. (λ i. joins s (p.0 i) (p.1 i)) ∙ joins-alike s b a ∙ h) (joins_ends t a b k)

  -- one of the list that joins the places
  abbrev At : List (Shortcut C) → ℕ → ℕ → Shortcut C → Type 0
  At l a b s = (k : ℕ) × (slice_get l k ≡ Some s) × (joins s a b ≡ true)

  at_later : (l : List (Shortcut C)) (a b : ℕ) (s t : Shortcut C) → At l a b s → At (t ∷ l) a b s
  at_later l a b s t (k, e, h) = (suc k, e, h)

  between_at : (l : List (Shortcut C)) (a b : ℕ) (s : Shortcut C) → shortcut_between l a b ≡ Some s → At l a b s
  between_at [] a b s e = none_some e
  between_at (t ∷ l) a b s e = go (joins t a b) refl (λ f. at_later l a b s t (between_at l a b s f)) e
    where
      go : (u : Bool) → joins t a b ≡ u → (shortcut_between l a b ≡ Some s → At (t ∷ l) a b s) → cond u (Some t) (shortcut_between l a b) ≡ Some s → At (t ∷ l) a b s
      go true h k f = (0, f, ap (λ r. joins r a b) (sym (same_some f)) ∙ h)
      go false h k f = k f

  -- where one of the list joins the places, one is found
  between_some : (l : List (Shortcut C)) (a b k : ℕ) (s : Shortcut C) → slice_get l k ≡ Some s → joins s a b ≡ true → (t : Shortcut C) × (shortcut_between l a b ≡ Some t)
  between_some [] a b k s e h = none_some e
  between_some (t ∷ l) a b zero s e h = (t, cond-true _ _ _ (ap (λ r. joins r a b) (same_some e) ∙ h))
  between_some (t ∷ l) a b (suc k) s e h =
      elim (joins t a b) as (λ u. (r : Shortcut C) × (cond u (Some t) (shortcut_between l a b) ≡ Some r)) [ true ↦ (t, refl) | false ↦ between_some l a b k s e h ]

-- two places of the land
abbrev pub two : {K : Kind} → Land K → ℕ → ℕ → Bool
two land a b = on land a && (on land b && not (eqb a b))

module _ {K : Kind} (land : Land K) (book : Book K) where
  abbrev inner : ℕ → ℕ → Price K
  inner a b = or_else (book.kept a b) (option_map (λ s. s.cost) (shortcut_between book.shortcuts a b))

  pub link_inner : (a b : ℕ) (c : K.C) → link land book a b ≡ Some c → inner a b ≡ Some c
  link_inner a b c = go (two land a b)
    where
      go : (t : Bool) → cond t (inner a b) None ≡ Some c → inner a b ≡ Some c
      go true e = e
      go false e = none_some e

  module _ (rule : ℕ → ℕ → Bool) (top : ℕ) (w : WellLevelled land rule top book) where
    pub only_one : (l : List (Shortcut K.C)) → ((k : ℕ) (t : Shortcut K.C) → slice_get l k ≡ Some t → slice_get book.shortcuts k ≡ Some t) →
        (a b k : ℕ) (s t : Shortcut K.C) → slice_get book.shortcuts k ≡ Some s → joins s a b ≡ true → shortcut_between l a b ≡ Some t → t ≡ s
    only_one l among a b k s t h g e =
        let p = between_at l a b t e in
        let q = among p.0 t p.1 in
        same_some (sym q ∙ ap (slice_get book.shortcuts) (w.single p.0 k t s q h (joins_both t s a b p.2 g)) ∙ h)

    -- every shortcut is a link
    pub shortcut_link : (k : ℕ) (s : Shortcut K.C) → slice_get book.shortcuts k ≡ Some s → link land book s.smaller s.larger ≡ Some s.cost
    shortcut_link k s h =
        let o = w.ordered k s h in
        let a : s.smaller < land.size = omega arith in
        let t = between_some book.shortcuts s.smaller s.larger k s h (joins_own s) in
        let e = only_one book.shortcuts (λ k t f. f) _ _ k s t.0 h (joins_own s) t.1 in
        let f : two land s.smaller s.larger ≡ true = and_from _ _ (lt-ltb _ _ a) (and_from _ _ (lt-ltb _ _ o.1) (not_from_false _ (ne_eqb _ _ (λ e. omega arith)))) in
        cond-true _ _ _ f ∙ (λ i. or_else (w.no_way_beside k s h i) (option_map (λ s. s.cost) (t.1 i))) ∙ ap (λ r. Some r.cost) e
