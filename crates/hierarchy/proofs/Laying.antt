-- Shown: every link, and every chain of links, is laid out as a walk over ways with the same ends and the same cost.
use Rattle.std.proofs.Common.{◌≡◌, ℕ, zero, suc, Bool, true, false, cond, List, [], ◌∷◌, ◌++◌, length, take, is_some, Some, None, Option, sym, refl, ap, ◌∙◌, subst, ⊎_elim}
use lib.Seq.{take-length}
use Rattle.std.specs.List.{slice_get}
use Rattle.std.specs.Option.{option_map}
use Rattle.ground.specs.Earliest.{or_else}
use Rattle.hierarchy.specs.declared.Shortcut.{Shortcut}
use Rattle.hierarchy.specs.Kinds.{Kind, Price}
use Rattle.hierarchy.specs.Walks.{end, along}
use Rattle.hierarchy.specs.Deciders.{add_some}
use Rattle.hierarchy.specs.Lands.{Land, ways}
use Rattle.hierarchy.specs.Books.{Book, joins, shortcut_between, link}
use Rattle.hierarchy.specs.Layouts.{lay_by, lay_chain}
use Rattle.hierarchy.specs.Levelled.{Lawful, before, WellLevelled, WellLaid}
use Rattle.hierarchy.proofs.Walking.{Goes, goes_step, goes_on}
use Rattle.hierarchy.proofs.Linking.{same_some, none_some, joins_ends, two, link_inner}
use Rattle.hierarchy.proofs.Links.{link-sym}

-- a shortcut if it joins the two places
abbrev if_joins : {C : Type 0} → ℕ → ℕ → Option (Shortcut C) → Option (Shortcut C)
if_joins x y None = None
if_joins x y (Some s) = cond (joins s x y) (Some s) None

-- the earliest of one shortcut more
between_more : {C : Type 0} (l : List (Shortcut C)) (n x y : ℕ) →
    shortcut_between (take (suc n) l) x y ≡ or_else (shortcut_between (take n l) x y) (if_joins x y (slice_get l n))
between_more [] zero x y = refl
between_more [] (suc n) x y = refl
between_more (t ∷ l) zero x y = refl
between_more (t ∷ l) (suc n) x y = go (joins t x y) (between_more l n x y)
  where
    go : (b : Bool) → shortcut_between (take (suc n) l) x y ≡ or_else (shortcut_between (take n l) x y) (if_joins x y (slice_get l n)) →
        cond b (Some t) (shortcut_between (take (suc n) l) x y) ≡ or_else (cond b (Some t) (shortcut_between (take n l) x y)) (if_joins x y (slice_get l n))
    go true e = refl
    go false e = e

module _ {K : Kind} (land : Land K) (lawful : Lawful land) (rule : ℕ → ℕ → Bool) (top : ℕ) (book : Book K) (w : WellLevelled land rule top book) where
  abbrev Laid : ℕ → ℕ → K.C → List ℕ → Type 0
  Laid = Goes K (ways land)

  -- links of the book with only the first n shortcuts are laid out by them
  abbrev Lays : ℕ → Type 0
  Lays n = (x y : ℕ) (c : K.C) → link land (before book n) x y ≡ Some c → Laid x y c (lay_by book n x y)

  kept-laid : (x y : ℕ) (c : K.C) → book.kept x y ≡ Some c → Laid x y c (y ∷ [])
  kept-laid x y c e = goes_step K (ways land) x y c (w.kept_ways x y c e)

  lays_none : Lays 0
  lays_none x y c e = kept-laid x y c (go (book.kept x y) (link_inner land (before book 0) x y c e))
    where
      go : (o : Price K) → or_else o None ≡ Some c → o ≡ Some c
      go (Some d) f = f
      go None f = f

  -- the two halves of shortcut number n
  module _ (n : ℕ) (lays : Lays n) (s : Shortcut K.C) (at : slice_get book.shortcuts n ≡ Some s) where
    abbrev links : ℕ → ℕ → Price K
    links = link land (before book n)

    abbrev over : ℕ → ℕ → List ℕ
    over x y = lay_by book n x s.middle ++ lay_by book n s.middle y

    by-halves : (x y : ℕ) (p q : K.C) → links x s.middle ≡ Some p → links s.middle y ≡ Some q → s.cost ≡ K.plus p q → Laid x y s.cost (over x y)
    by-halves x y p q e f g =
        subst (λ c. Laid x y c (over x y)) (sym g) (goes_on K (ways land) x s.middle y p q _ _ (lays x s.middle p e) (lays s.middle y q f))

    alike : (x y : ℕ) → links x y ≡ links y x
    alike = link-sym land book.kept w.kept-alike (take n book.shortcuts)

    -- entered from either end
    shortcut_laid : (x y : ℕ) → joins s x y ≡ true → Laid x y s.cost (over x y)
    shortcut_laid x y h =
        let r = w.halves n s at in
        ⊎_elim (λ e. by-halves x y r.0 r.1 (ap (λ z. links z s.middle) (sym e.0) ∙ r.2) (ap (links s.middle) (sym e.1) ∙ r.3) r.4)
        (λ e. by-halves x y r.1 r.0 (alike x _ ∙ ap (links s.middle) (sym e.1) ∙ r.3) (alike _ y ∙ ap (λ z. links z s.middle) (sym e.0) ∙ r.2)
        (r.4 ∙ K.laws.plus_comm r.0 r.1))
        (joins_ends s x y h)

  -- one shortcut more
  module _ (n : ℕ) (lays : Lays n) (x y : ℕ) (c : K.C) where
    abbrev found : Option (Shortcut K.C)
    found = shortcut_between (take n book.shortcuts) x y

    by_last : (o : Option (Shortcut K.C)) → slice_get book.shortcuts n ≡ o → option_map (λ s. s.cost) (if_joins x y o) ≡ Some c →
        Laid x y c (elim o as (λ p. List ℕ) [ None ↦ y ∷ [] | Some s ↦ cond (joins s x y) (lay_by book n x s.middle ++ lay_by book n s.middle y) (y ∷ []) ])
    by_last None at e = none_some e
    by_last (Some s) at e = go (joins s x y) refl e
      where
        go : (t : Bool) → joins s x y ≡ t → option_map (λ s. s.cost) (cond t (Some s) None) ≡ Some c → Laid x y c (cond t (over n lays s at x y) (y ∷ []))
        go true h f = subst (λ d. Laid x y d (over n lays s at x y)) (same_some f) (shortcut_laid n lays s at x y h)
        go false h f = none_some f

    lays_one : link land (before book (suc n)) x y ≡ Some c → Laid x y c (lay_by book (suc n) x y)
    lays_one f = go (book.kept x y) refl found refl (link_inner land (before book (suc n)) x y c f)
      where
        rest : Price K
        rest = option_map (λ s. s.cost) (shortcut_between (take (suc n) book.shortcuts) x y)

        go : (o : Price K) → book.kept x y ≡ o → (p : Option (Shortcut K.C)) → found ≡ p → or_else o rest ≡ Some c →
            Laid x y c (cond (is_some o) (y ∷ []) (cond (is_some p) (lay_by book n x y)
            (elim (slice_get book.shortcuts n) [ None ↦ y ∷ [] | Some s ↦ cond (joins s x y) (lay_by book n x s.middle ++ lay_by book n s.middle y) (y ∷ []) ])))
        go (Some d) g p h k = kept-laid x y c (g ∙ k)
        go None g (Some s) h k =
            let q : found ≡ shortcut_between (take (suc n) book.shortcuts) x y = h ∙ sym (between_more book.shortcuts n x y ∙ ap (λ o. or_else o (if_joins x y (slice_get book.shortcuts n))) h) in
            lays x y c (ap (λ o. cond (two land x y) (or_else (book.kept x y) (option_map (λ s. s.cost) o)) None) q ∙ f)
        go None g None h k =
            by_last (slice_get book.shortcuts n) refl (ap (option_map (λ s. s.cost)) (sym (between_more book.shortcuts n x y ∙ ap (λ o. or_else o (if_joins x y (slice_get book.shortcuts n))) h)) ∙ k)

  lays_first : (n : ℕ) → Lays n
  lays_first zero = lays_none
  lays_first (suc n) = λ x y c. lays_one n (lays_first n) x y c

  pub well_laid : WellLaid land book
  well_laid x y c e =
      lays_first (length book.shortcuts) x y c
      (ap (λ l. link land (record { level = book.level; kept = book.kept; shortcuts = l }) x y) (take-length book.shortcuts) ∙ e)

  pub laid-chain : (a : ℕ) (l : List ℕ) (c : K.C) → along K (link land book) a l ≡ Some c →
      (end a (lay_chain book a l) ≡ end a l) × (along K (ways land) a (lay_chain book a l) ≡ Some c)
  laid-chain a [] c e = (refl, e)
  laid-chain a (x ∷ l) c e =
      let p = add_some K (link land book a x) _ c e in
      subst (λ d. Laid a (end x l) d (lay_chain book a (x ∷ l))) p.4
      (goes_on K (ways land) a x (end x l) p.0 p.1 _ _ (well_laid a x p.0 p.2) (laid-chain x l p.1 p.3))
