-- Shown: the ways that no walk beats cost the distance, are alike from either end, and make a chain as cheap as any walk.
--   Unbeaten  `kept` holds the ways that no walk beats, and no others
use Rattle.std.proofs.Common.{◌≡◌, ℕ, zero, suc, ◌+◌, ◌<◌, ◌≤◌, Bool, true, false, cond, ◌&&◌, eqb, ◌≢◌, ◌⊎◌, List, [], ◌∷◌, ◌++◌, Some, None, sym, refl, ap, ◌∙◌, subst, inl, inr, ⊎_elim, arith, eqb→eq}
use Rattle.std.proofs.lemmas.Bool.{true≢false, cases_Bool, and_parts, ltb-true, cond-true, cond-false}
use Rattle.hierarchy.specs.Kinds.{Price, add, cheaper}
use Rattle.hierarchy.specs.Walks.{end, along, SetAside}
use Rattle.hierarchy.specs.Scales.{scale, scale_laws, T_false, false-T}
use Rattle.hierarchy.specs.Shortest.{In, first, later, below, in_below, end-append, zero_r, memo2_is}
use Rattle.hierarchy.specs.Lands.{on}
use Rattle.hierarchy.specs.Deciders.{decided, set_aside?}
use Rattle.hierarchy.specs.Levels.{pairs, start}
use Rattle.hierarchy.proofs.Lists.{in_pairs}
use Rattle.hierarchy.proofs.Prices.{Has, cond_has, some_has, has_some, has_or_none, has_not_none, Le, le_refl, le_trans, le_anti, le_total, le-add, le_more_l, le_more_r, same_le, le_none, le_has, along-append}
use Rattle.hierarchy.proofs.Distances.{Region, way, D, DWalk, DWay, DSym, DBelow, Exact}

abbrev count : {A : Type 0} → (A → Bool) → List A → ℕ
count p [] = 0
count p (x ∷ l) = cond (p x) 1 0 + count p l

module _ {A : Type 0} (p q : A → Bool) (h : (x : A) → p x ≡ true → q x ≡ true) where
  count_here : (x : A) → cond (p x) 1 0 ≤ cond (q x) 1 0
  count_here x = go (p x) (q x) (h x)
    where
      go : (s t : Bool) → (s ≡ true → t ≡ true) → cond s 1 0 ≤ cond t 1 0
      go false t f = omega arith
      go true true f = omega arith
      go true false f = absurd (true≢false (sym (f refl)))

  count-le : (l : List A) → count p l ≤ count q l
  count-le [] = omega arith
  count-le (x ∷ l) = omega (arith, count_here x, count-le l)

  count-lt : (l : List A) (z : A) → In z l → p z ≡ false → q z ≡ true → count p l < count q l
  count-lt [] z i e f = elim i [ ]
  count-lt (x ∷ l) z first e f = omega (arith, cond-false {A = ℕ} (p x) 1 0 e, cond-true {A = ℕ} (q x) 1 0 f, count-le l)
  count-lt (x ∷ l) z (later i) e f = omega (arith, count_here x, count-lt l z i e f)

module _ (R : Region) where
  abbrev pub Unbeaten : (ℕ → ℕ → Price R.K) → Type 0
  Unbeaten kept = (a b : ℕ) → (SetAside R.K (way R) a b → kept a b ≡ None) × (¬ (SetAside R.K (way R) a b) → kept a b ≡ way R a b)

  pub start_unbeaten : Unbeaten (start R.land).kept
  start_unbeaten a b = subst (λ (f : ℕ → ℕ → Price R.K). Here (f a b)) (sym (memo2_is eqb eqb→eq plain (below R.land.size))) (go (set_aside? R.K R.land a b))
    where
      plain : ℕ → ℕ → Price R.K
      plain x y = cond (decided (set_aside? R.K R.land x y)) None (way R x y)

      Here : Price R.K → Type 0
      Here p = (SetAside R.K (way R) a b → p ≡ None) × (¬ (SetAside R.K (way R) a b) → p ≡ way R a b)

      go : (d : Dec (SetAside R.K (way R) a b)) → Here (cond (decided d) None (way R a b))
      go (yes h) = (λ k. refl, λ k. absurd (k h))
      go (no h) = (λ k. absurd (h k), λ k. refl)

  pub way_ends : (a b : ℕ) → Has (way R a b) → (a < R.land.size) × (b < R.land.size)
  way_ends a b h =
      let e = and_parts (on R.land a) (on R.land b) (cond_has (on R.land a && on R.land b) (R.land.way a b) h).0 in
      (ltb-true _ _ e.0, ltb-true _ _ e.1)

  pub way_apart : (a b : ℕ) → Has (way R a b) → a ≢ b
  way_apart a b h e = has_not_none (way R a b) h (ap (way R a) (sym e) ∙ R.lawful.apart a)

  -- the pair of the way, in one order or the other
  way_pair : (a b : ℕ) → Has (way R a b) → (z : ℕ × ℕ) × In z (pairs (below R.land.size)) × (way R z.0 z.1 ≡ way R a b)
  way_pair a b h =
      let e = way_ends a b h in
      ⊎_elim (λ i. ((a, b), i, refl)) (λ i. ((b, a), i, R.lawful.alike b a))
      (in_pairs (below R.land.size) a b (in_below _ a e.0) (in_below _ b e.1) (way_apart a b h))

  cheaper-not : (p q : Price R.K) → cheaper R.K p q ≡ true → Le R.K q p → ⊥
  cheaper-not p q e h = true≢false (sym e ∙ false-T R.K _ h.holds)

  not-cheaper : (p q : Price R.K) → (Le R.K q p → ⊥) → cheaper R.K p q ≡ true
  not-cheaper p q h = ⊎_elim (λ e. e) (λ e. absurd (h (record { holds = T_false R.K _ e }))) (cases_Bool (cheaper R.K p q))

  -- how many ways are cheaper
  rank : Price R.K → ℕ
  rank c = count (λ z. cheaper R.K (way R z.0 z.1) c) (pairs (below R.land.size))

  rank_lt : (c : Price R.K) (x y : ℕ) → (Le R.K c (way R x y) → ⊥) → rank (way R x y) < rank c
  unfolding rank
  rank_lt c x y h =
      let z = way_pair x y there in
      count-lt (λ u. cheaper R.K (way R u.0 u.1) (way R x y)) (λ u. cheaper R.K (way R u.0 u.1) c)
      (λ u e. not-cheaper _ _ (λ g. cheaper-not _ _ e (le_trans low g))) (pairs (below R.land.size)) z.0 z.1
      (⊎_elim (λ e. absurd (cheaper-not _ _ e (same_le (sym z.2)))) (λ e. e) (cases_Bool (cheaper R.K (way R z.0.0 z.0.1) (way R x y))))
      (not-cheaper _ _ (λ g. h (subst (Le R.K c) z.2 g)))
    where
      low : Le R.K (way R x y) c
      low = ⊎_elim (λ k. absurd (h k)) (λ k. k) (le_total c (way R x y))

      there : Has (way R x y)
      there = ⊎_elim (λ k. k) (λ e. absurd (h (le_none e))) (has_or_none (way R x y))

  abbrev Chained : (ℕ → ℕ → Price R.K) → ℕ → ℕ → Price R.K → Type 0
  Chained w a b c = (l : List ℕ) × (end a l ≡ b) × Le R.K (along R.K w a l) c

  module _ (kept : ℕ → ℕ → Price R.K) (unbeaten : Unbeaten kept) where
    kept_cases : (a b : ℕ) → ((kept a b ≡ None) × SetAside R.K (way R) a b) ⊎ ((kept a b ≡ way R a b) × (¬ (SetAside R.K (way R) a b)))
    kept_cases a b = elim (set_aside? R.K R.land a b) [ yes h ↦ inl ((unbeaten a b).0 h, h) | no h ↦ inr ((unbeaten a b).1 h, h) ]

    pub kept_ways : (a b : ℕ) (c : R.K.C) → kept a b ≡ Some c → way R a b ≡ Some c
    kept_ways a b c e = ⊎_elim (λ h. absurd (has_not_none (kept a b) (some_has (kept a b) c e) h.0)) (λ h. sym h.0 ∙ e) (kept_cases a b)

    -- a way that is not beaten costs the distance
    not_aside : (a b : ℕ) → ¬ (SetAside R.K (way R) a b) → Has (way R a b) → way R a b ≡ D R a b
    not_aside a b n h =
        let c = has_some (way R a b) h in
        let d = has_some (D R a b) (le_has (DWay R a b) h) in
        let q = DWalk R a b in
        ⊎_elim (λ e. absurd (n (c.0, d.0, c.1, (q.0, q.1, q.2 ∙ d.1), e)))
        (λ e. le_anti (subst (λ p. Le R.K p (D R a b)) (sym c.1) (subst (Le R.K (Some c.0)) (sym d.1) (record { holds = T_false R.K _ e }))) (DWay R a b))
        (cases_Bool (R.K.less d.0 c.0))

    pub kept-exact : Exact R kept
    kept-exact a b h =
        ⊎_elim (λ k. absurd (has_not_none (kept a b) h k.0)) (λ k. k.0 ∙ not_aside a b k.1 (subst Has k.0 h)) (kept_cases a b)

    aside_turned : (a b : ℕ) → SetAside R.K (way R) a b → SetAside R.K (way R) b a
    aside_turned a b (c, d, e, w, h) =
        let m = has_some (D R a b) (le_has (DBelow R a b d w) refl) in
        let q = DWalk R b a in
        let low : Le R.K (Some m.0) (Some d) = subst (λ p. Le R.K p (Some d)) m.1 (DBelow R a b d w) in (
          c,
          m.0,
          R.lawful.alike b a ∙ e,
          (q.0, q.1, q.2 ∙ DSym R b a ∙ m.1),
          not-cheaper (Some m.0) (Some c) (λ k. cheaper-not (Some d) (Some c) h (le_trans k low)),
        )

    pub kept-alike : (a b : ℕ) → kept a b ≡ kept b a
    kept-alike a b = elim (set_aside? R.K R.land a b) [
      | yes h ↦ (unbeaten a b).0 h ∙ sym ((unbeaten b a).0 (aside_turned a b h))
      | no h ↦ (unbeaten a b).1 h ∙ R.lawful.alike a b ∙ sym ((unbeaten b a).1 (λ k. h (aside_turned b a k)))
    ]

    chain_join : (a b c : ℕ) (x y : Price R.K) → Chained kept a b x → Chained kept b c y → Chained kept a c (add R.K x y)
    chain_join a b c x y (l, e, h) (m, f, k) = (
      l ++ m,
      end-append a l m ∙ ap (λ z. end z m) e ∙ f,
      subst (λ z. Le R.K z (add R.K x y)) (sym (along-append R.K kept a l m ∙ ap (λ z. add R.K (along R.K kept a l) (along R.K kept z m)) e)) (le-add h k),
    )

    -- the steps of a walk that is cheaper than c are cheaper than c
    steps : (c : Price R.K) → ((x y : ℕ) → (Le R.K c (way R x y) → ⊥) → Chained kept x y (way R x y)) →
        (a : ℕ) (l : List ℕ) → (Le R.K c (along R.K (way R) a l) → ⊥) → Chained kept a (end a l) (along R.K (way R) a l)
    steps c r a [] h = ([], refl, le_refl)
    steps c r a (y ∷ l) h =
        chain_join a y (end y l) (way R a y) (along R.K (way R) y l)
        (r a y (λ k. h (le_trans k (le_more_r (way R a y) (along R.K (way R) y l)))))
        (steps c r y l (λ k. h (le_trans k (le_more_l (way R a y) (along R.K (way R) y l)))))

    aside_dearer : (a b : ℕ) → SetAside R.K (way R) a b → Le R.K (way R a b) (D R a b) → ⊥
    aside_dearer a b (c, d, e, w, h) k =
        cheaper-not (Some d) (Some c) h (subst (λ p. Le R.K p (Some d)) e (le_trans k (DBelow R a b d w)))

    by_rank : (k : ℕ) (a b : ℕ) → rank (way R a b) < k → Chained kept a b (way R a b)
    by_rank zero a b h = absurd (omega arith)
    by_rank (suc k) a b h = go (by_rank k) (kept_cases a b)
      where
        go : ((x y : ℕ) → rank (way R x y) < k → Chained kept x y (way R x y)) →
            ((kept a b ≡ None) × SetAside R.K (way R) a b) ⊎ ((kept a b ≡ way R a b) × (¬ (SetAside R.K (way R) a b))) → Chained kept a b (way R a b)
        go r (inr u) = (b ∷ [], refl, same_le (zero_r (scale R.K) (scale_laws R.K) (kept a b) ∙ u.0))
        go r (inl u) =
            let q = DWalk R a b in
            let s = steps (way R a b) (λ x y g. r x y (let z = rank_lt (way R a b) x y g in omega arith)) a q.0
            (λ g. aside_dearer a b u.1 (subst (Le R.K (way R a b)) q.2 g)) in
            (s.0, s.1 ∙ q.1, le_trans (subst (Le R.K (along R.K kept a s.0)) q.2 s.2) (DWay R a b))

    along_walk : (a : ℕ) (l : List ℕ) → Chained kept a (end a l) (along R.K (way R) a l)
    along_walk a [] = ([], refl, le_refl)
    along_walk a (y ∷ l) =
        chain_join a y (end y l) (way R a y) (along R.K (way R) y l) (by_rank (suc (rank (way R a y))) a y (omega arith)) (along_walk y l)

    pub enough : (a b : ℕ) → (l : List ℕ) × (end a l ≡ b) × Le R.K (along R.K kept a l) (D R a b)
    enough a b =
        let q = DWalk R a b in
        let s = along_walk a q.0 in
        (s.0, s.1 ∙ q.1, subst (Le R.K (along R.K kept a s.0)) q.2 s.2)
