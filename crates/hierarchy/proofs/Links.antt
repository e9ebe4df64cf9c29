-- Shown: links join different places of the land and are alike from either end, and those there are stay when shortcuts are appended.
--   linked  the links that kept ways and shortcuts make
use Rattle.std.proofs.Common.{◌≡◌, ℕ, suc, ◌<◌, Bool, true, false, cond, not, ◌&&◌, eqb, ◌≢◌, ◌⊎◌, List, [], ◌∷◌, ◌++◌, is_some, Some, None, Option, sym, refl, ap, ◌∙◌, subst, inl, inr, ⊎_elim}
use mathlib.Core.Bool.{or_comm}
use Rattle.std.proofs.lemmas.Bool.{true≢false, and_parts, and_from, or_cases, or_left, or_right, ltb-true, lt-ltb, eqb-true, eqb-false, eq-eqb, ne_eqb, not-true, not_from_false, cond-true, cond-false}
use Rattle.std.specs.List.{slice_get, AllByRecursion as All}
use Rattle.std.specs.Option.{option_map}
use Rattle.ground.specs.Earliest.{or_else}
use Rattle.hierarchy.specs.declared.Shortcut.{Shortcut}
use Rattle.hierarchy.specs.Kinds.{Kind, Price}
use Rattle.hierarchy.specs.Lands.{Land, on}
use Rattle.hierarchy.specs.Books.{joins, shortcut_between, link}
use Rattle.hierarchy.specs.Shortest.{In, first, later}
use Rattle.hierarchy.proofs.Prices.{Has, has_some, has_or_none, none_some, cond_has}
use Rattle.hierarchy.proofs.Distances.{Region, D, DSym, Exact}

abbrev pub linked : {K : Kind} → Land K → (ℕ → ℕ → Price K) → List (Shortcut K.C) → ℕ → ℕ → Price K
linked land kept cs = link land (record { level = λ x. 0; kept = kept; shortcuts = cs })

and_swap : (x y z : Bool) → (x && (y && z)) ≡ (y && (x && z))
and_swap true y z = refl
and_swap false true z = refl
and_swap false false z = refl

eqb-sym : (a b : ℕ) → eqb a b ≡ eqb b a
eqb-sym a b = go (eqb b a) refl
  where
    go : (t : Bool) → eqb b a ≡ t → eqb a b ≡ t
    go true e = subst (λ z. eqb z b ≡ true) (eqb-true b a e) (subst (λ z. eqb b z ≡ true) (sym (eqb-true b a e)) e)
    go false e = ne_eqb a b (λ h. eqb-false b a e (sym h))

module _ {C : Type 0} where
  pub joins_ends : (s : Shortcut C) (a b : ℕ) → joins s a b ≡ true → ((s.smaller ≡ a) × (s.larger ≡ b)) ⊎ ((s.smaller ≡ b) × (s.larger ≡ a))
  joins_ends s a b h = ⊎_elim (λ k. inl (both a b k)) (λ k. inr (both b a k)) (or_cases (eqb s.smaller a && eqb s.larger b) _ h)
    where
      both : (x y : ℕ) → (eqb s.smaller x && eqb s.larger y) ≡ true → (s.smaller ≡ x) × (s.larger ≡ y)
      both x y k = let p = and_parts (eqb s.smaller x) _ k in (eqb-true _ _ p.0, eqb-true _ _ p.1)

  pub joins_turned : (s t : Shortcut C) → joins s t.smaller t.larger ≡ true → joins t s.smaller s.larger ≡ true
  joins_turned s t h =
      ⊎_elim (λ e. or_left _ _ (both s.smaller s.larger (sym e.0) (sym e.1))) (λ e. or_right _ _ (both s.larger s.smaller (sym e.1) (sym e.0)))
      (joins_ends s t.smaller t.larger h)
    where
      both : (x y : ℕ) → t.smaller ≡ x → t.larger ≡ y → (eqb t.smaller x && eqb t.larger y) ≡ true
      both x y e f = and_from (eqb t.smaller x) _ (eq-eqb _ _ e) (eq-eqb _ _ f)

  between-sym : (cs : List (Shortcut C)) (a b : ℕ) → shortcut_between cs a b ≡ shortcut_between cs b a
  between-sym [] a b = refl
  between-sym (s ∷ cs) a b =
      λ i. cond (or_comm (eqb s.smaller a && eqb s.larger b) (eqb s.smaller b && eqb s.larger a) i) (Some s) (between-sym cs a b i)

  between_more : (cs ds : List (Shortcut C)) (a b : ℕ) → Has (shortcut_between cs a b) → shortcut_between (cs ++ ds) a b ≡ shortcut_between cs a b
  between_more [] ds a b h = absurd (true≢false (sym h))
  between_more (s ∷ cs) ds a b h = go (joins s a b) h (between_more cs ds a b)
    where
      go : (t : Bool) → Has (cond t (Some s) (shortcut_between cs a b)) → (Has (shortcut_between cs a b) → shortcut_between (cs ++ ds) a b ≡ shortcut_between cs a b) →
          cond t (Some s) (shortcut_between (cs ++ ds) a b) ≡ cond t (Some s) (shortcut_between cs a b)
      go true k r = refl
      go false k r = r k

  between_others : (cs ds : List (Shortcut C)) (a b : ℕ) → All (λ t. joins t a b ≡ false) ds → shortcut_between (cs ++ ds) a b ≡ shortcut_between cs a b
  between_others [] [] a b h = refl
  between_others [] (t ∷ ds) a b h = cond-false (joins t a b) (Some t) (shortcut_between ds a b) h.0 ∙ between_others [] ds a b h.1
  between_others (s ∷ cs) ds a b h = ap (cond (joins s a b) (Some s)) (between_others cs ds a b h)

  between-found : (cs : List (Shortcut C)) (a b : ℕ) (s : Shortcut C) → shortcut_between cs a b ≡ Some s → (k : ℕ) × (slice_get cs k ≡ Some s) × (joins s a b ≡ true)
  between-found [] a b s e = absurd (none_some e)
  between-found (t ∷ cs) a b s e = go (joins t a b) refl e (between-found cs a b s)
    where
      go : (u : Bool) → joins t a b ≡ u → cond u (Some t) (shortcut_between cs a b) ≡ Some s →
          (shortcut_between cs a b ≡ Some s → (k : ℕ) × (slice_get cs k ≡ Some s) × (joins s a b ≡ true)) → (k : ℕ) × (slice_get (t ∷ cs) k ≡ Some s) × (joins s a b ≡ true)
      go true j f r = let e : t ≡ s = cc in (0, f, subst (λ x. joins x a b ≡ true) e j)
      go false j f r = let q = r f in (suc q.0, q.1, q.2)

  between_has : (cs : List (Shortcut C)) (a b : ℕ) (s : Shortcut C) → In s cs → joins s a b ≡ true → Has (shortcut_between cs a b)
  between_has [] a b s i h = elim i [ ]
  between_has (t ∷ cs) a b s first h = subst (λ u. Has (cond u (Some s) (shortcut_between cs a b))) (sym h) refl
  between_has (t ∷ cs) a b s (later i) h = go (joins t a b) (between_has cs a b s i h)
    where
      go : (u : Bool) → Has (shortcut_between cs a b) → Has (cond u (Some t) (shortcut_between cs a b))
      go true k = refl
      go false k = k

else_has : {A : Type 0} (p q : Option A) → Has q → Has (or_else p q)
else_has None q h = h
else_has (Some x) q h = refl

else_first : {A : Type 0} (p q : Option A) → Has p → or_else p q ≡ p
else_first None q h = absurd (true≢false (sym h))
else_first (Some x) q h = refl

else_none : {A : Type 0} (p q : Option A) → or_else p q ≡ None → p ≡ None
else_none None q e = refl
else_none (Some x) q e = e

module _ {K : Kind} (land : Land K) (kept : ℕ → ℕ → Price K) where
  pub link_ends : (cs : List (Shortcut K.C)) (a b : ℕ) → Has (linked land kept cs a b) → (a < land.size) × (b < land.size) × (a ≢ b)
  link_ends cs a b h =
      let t = (cond_has (on land a && (on land b && not (eqb a b))) _ h).0 in
      let p = and_parts (on land a) _ t in
      let q = and_parts (on land b) _ p.1 in
      (ltb-true _ _ p.0, ltb-true _ _ q.0, eqb-false a b (not-true _ q.1))

  pub link_loop : (cs : List (Shortcut K.C)) (a : ℕ) → linked land kept cs a a ≡ None
  link_loop cs a = ⊎_elim (λ h. absurd ((link_ends cs a a h).2 refl)) (λ e. e) (has_or_none (linked land kept cs a a))

  link_at : (cs : List (Shortcut K.C)) (a b : ℕ) → a < land.size → b < land.size → a ≢ b →
      linked land kept cs a b ≡ or_else (kept a b) (option_map (λ s. s.cost) (shortcut_between cs a b))
  link_at cs a b p q n = cond-true _ _ None (and_from (on land a) _ (lt-ltb _ _ p) (and_from (on land b) _ (lt-ltb _ _ q) (not_from_false _ (ne_eqb a b n))))

  pub link-sym : ((a b : ℕ) → kept a b ≡ kept b a) → (cs : List (Shortcut K.C)) (a b : ℕ) → linked land kept cs a b ≡ linked land kept cs b a
  link-sym alike cs a b =
      let t : (on land a && (on land b && not (eqb a b))) ≡ (on land b && (on land a && not (eqb b a))) =
      and_swap (on land a) (on land b) (not (eqb a b)) ∙ ap (λ z. on land b && (on land a && not z)) (eqb-sym a b) in
      λ i. cond (t i) (or_else (alike a b i) (option_map (λ s. s.cost) (between-sym cs a b i))) None

  -- a link that is there stays
  pub link_more : (cs ds : List (Shortcut K.C)) (a b : ℕ) → Has (linked land kept cs a b) → linked land kept (cs ++ ds) a b ≡ linked land kept cs a b
  link_more cs ds a b h = go (on land a && (on land b && not (eqb a b))) (kept a b) (shortcut_between cs a b) h (between_more cs ds a b)
    where
      go : (t : Bool) (p : Price K) (o : Option (Shortcut K.C)) → Has (cond t (or_else p (option_map (λ s. s.cost) o)) None) →
          (Has o → shortcut_between (cs ++ ds) a b ≡ o) →
          cond t (or_else p (option_map (λ s. s.cost) (shortcut_between (cs ++ ds) a b))) None ≡ cond t (or_else p (option_map (λ s. s.cost) o)) None
      go false p o k r = refl
      go true (Some x) o k r = refl
      go true None None k r = absurd (true≢false (sym k))
      go true None (Some s) k r = ap (option_map (λ s. s.cost)) (r refl)

  -- shortcuts that join other places change nothing
  pub link_others : (cs ds : List (Shortcut K.C)) (a b : ℕ) → All (λ t. joins t a b ≡ false) ds → linked land kept (cs ++ ds) a b ≡ linked land kept cs a b
  link_others cs ds a b h =
      ap (λ o. cond (on land a && (on land b && not (eqb a b))) (or_else (kept a b) (option_map (λ s. s.cost) o)) None) (between_others cs ds a b h)

  -- a link is a way kept, or a shortcut
  pub link-from : (cs : List (Shortcut K.C)) (a b : ℕ) → Has (linked land kept cs a b) →
      (Has (kept a b) × (linked land kept cs a b ≡ kept a b)) ⊎
      ((k : ℕ) × (s : Shortcut K.C) × (slice_get cs k ≡ Some s) × (joins s a b ≡ true) × (linked land kept cs a b ≡ Some s.cost))
  link-from cs a b h =
      let e = link_ends cs a b h in
      let f = link_at cs a b e.0 e.1 e.2 in
      go (kept a b) (shortcut_between cs a b) refl f (subst Has f h)
    where
      go : (p : Price K) (o : Option (Shortcut K.C)) → shortcut_between cs a b ≡ o → linked land kept cs a b ≡ or_else p (option_map (λ s. s.cost) o) →
          Has (or_else p (option_map (λ s. s.cost) o)) → (Has p × (linked land kept cs a b ≡ p)) ⊎
          ((k : ℕ) × (s : Shortcut K.C) × (slice_get cs k ≡ Some s) × (joins s a b ≡ true) × (linked land kept cs a b ≡ Some s.cost))
      go (Some x) o q f k = inl (refl, f)
      go None None q f k = absurd (true≢false (sym k))
      go None (Some s) q f k = let r = between-found cs a b s q in inr (r.0, s, r.1, r.2, f)

  pub link-joined : (cs : List (Shortcut K.C)) (a b : ℕ) (s : Shortcut K.C) → In s cs → joins s a b ≡ true → a < land.size → b < land.size → a ≢ b →
      Has (linked land kept cs a b)
  link-joined cs a b s i j p q n =
      let o = has_some (shortcut_between cs a b) (between_has cs a b s i j) in
      subst Has (sym (link_at cs a b p q n)) (else_has (kept a b) _ (ap (λ x. is_some (option_map (λ s. s.cost) x)) o.1))

  pub link-way : (cs : List (Shortcut K.C)) (a b : ℕ) → a < land.size → b < land.size → a ≢ b → Has (kept a b) → linked land kept cs a b ≡ kept a b
  link-way cs a b p q n h = link_at cs a b p q n ∙ else_first (kept a b) _ h

  pub no_link_no_way : (cs : List (Shortcut K.C)) (a b : ℕ) → a < land.size → b < land.size → a ≢ b → linked land kept cs a b ≡ None → kept a b ≡ None
  no_link_no_way cs a b p q n e = else_none (kept a b) _ (sym (link_at cs a b p q n) ∙ e)

module _ (R : Region) (kept : ℕ → ℕ → Price R.K) (exact : Exact R kept) where
  joined-far : (s : Shortcut R.K.C) (a b : ℕ) → joins s a b ≡ true → D R s.smaller s.larger ≡ D R a b
  joined-far s a b h = ⊎_elim (λ e i. D R (e.0 i) (e.1 i)) (λ e. (λ i. D R (e.0 i) (e.1 i)) ∙ DSym R b a) (joins_ends s a b h)

  pub link-exact : (cs : List (Shortcut R.K.C)) → ((k : ℕ) (s : Shortcut R.K.C) → slice_get cs k ≡ Some s → D R s.smaller s.larger ≡ Some s.cost) →
      Exact R (linked R.land kept cs)
  link-exact cs right a b h =
      ⊎_elim (λ p. p.1 ∙ exact a b p.0) (λ q. q.4 ∙ sym (right q.0 q.1 q.2) ∙ joined-far q.1 a b q.3) (link-from R.land kept cs a b h)
