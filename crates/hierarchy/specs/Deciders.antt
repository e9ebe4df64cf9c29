-- Shown: whether a way is set aside, and whether a place climbs to another, is decided.
--   decided     what a decision came to
--   set_aside?  a way is set aside or not
--   climbs?     some chain rises from a to b or none does
use Rattle.std.specs.Prelude.{◌≡◌, ℕ, ◌<◌, Bool, true, false, cond, not, ◌&&◌, T, ◌⊎◌, List, [], ◌∷◌, is_some, Some, None, nat_eq, nat_lt, refl}
use Rattle.std.proofs.Common.{sym, ◌∙◌, ap, subst, inl, inr, ⊎_elim, eqb→eq}
use Rattle.std.proofs.Math.Dec.{eqb_refl}
use Rattle.std.proofs.lemmas.Bool.{true≢false, cases_Bool, ltb-true, lt-ltb}
use Rattle.hierarchy.specs.Kinds.{Kind, Price, add, cheaper}
use Rattle.hierarchy.specs.Walks.{end, along, Walk, SetAside}
use Rattle.hierarchy.specs.Scales.{scale, scale_laws, false-T}
use Rattle.hierarchy.specs.Shortest.{In, least, least_is, least_most, fast, fast_is, below, in_below}
use Rattle.hierarchy.specs.Lands.{Land, on, ways}
use Rattle.hierarchy.specs.Chains.{Rises, Climbs}

abbrev pub decided : {P : Type 0} → Dec P → Bool
decided (yes h) = true
decided (no h) = false

pub decided-true : {P : Type 0} (d : Dec P) → decided d ≡ true → P
decided-true (yes h) e = h
decided-true (no h) e = absurd (true≢false (sym e))

pub decided-false : {P : Type 0} (d : Dec P) → decided d ≡ false → P → ⊥
decided-false (yes h) e p = true≢false e
decided-false (no h) e p = h p

abbrev pub decide : {P : Type 0} (t : Bool) → (t ≡ true → P) → (P → t ≡ true) → Dec P
decide true f g = yes (f refl)
decide false f g = no (λ p. true≢false (sym (g p)))

-- the least price, over any nodes of which all that can be reached are listed
abbrev pub cheapest : (K : Kind) {V : Type 0} → (V → V → Bool) → (V → V → Price K) → List V → V → V → Price K
cheapest K eq w ks = fast (scale K) eq w ks ks

module _ (K : Kind) {V : Type 0} (eq : V → V → Bool) (eq_refl : (a : V) → T (eq a a)) (eq_same : (a b : V) → T (eq a b) → a ≡ b)
    (w : V → V → Price K) (ks : List V) where
  cheapest_is : (a b : V) → cheapest K eq w ks a b ≡ least (scale K) eq w ks a b
  cheapest_is a b = ap {A = V → V → Price K} (λ (d : V → V → Price K). d a b) (fast_is eq eq_same (scale K) w ks ks)

  pub cheapest_walk : (a b : V) (c : K.C) → cheapest K eq w ks a b ≡ Some c → Walk K w a b c
  cheapest_walk a b c e =
      let p = least_is (scale K) (scale_laws K) eq eq_refl eq_same w ks a b in (p.0, p.1, p.2 ∙ sym (cheapest_is a b) ∙ e)

  some_below : (p : Price K) (c : K.C) → T (not (cheaper K (Some c) p)) → (d : K.C) × (p ≡ Some d) × (K.less c d ≡ false)
  some_below None c h = absurd h
  some_below (Some d) c h = (d, refl, false-T K _ h)

  pub cheapest_bound : ((a x : V) → In x ks ⊎ (w a x ≡ None)) → (a b : V) (c : K.C) → Walk K w a b c → (d : K.C) × (cheapest K eq w ks a b ≡ Some d) × (K.less c d ≡ false)
  cheapest_bound inside a b c (l, e, f) =
      let h = least_most (scale K) (scale_laws K) eq eq_refl eq_same w ks inside l a in
      let k : T (not (cheaper K (Some c) (least (scale K) eq w ks a b))) =
      subst (λ x. T (not (cheaper K (Some c) (least (scale K) eq w ks a x)))) e
      (subst (λ p. T (not (cheaper K p (least (scale K) eq w ks a (end a l))))) f h) in
      let r = some_below _ c k in (r.0, cheapest_is a b ∙ r.1, r.2)

module _ (K : Kind) where
  -- one price beats another that is a cost
  abbrev pub beats : Price K → Price K → Bool
  beats p None = false
  beats p (Some c) = cheaper K p (Some c)

  pub beats_parts : (p q : Price K) → beats p q ≡ true → (c : K.C) × (d : K.C) × (q ≡ Some c) × (p ≡ Some d) × (K.less d c ≡ true)
  beats_parts p None h = absurd (true≢false (sym h))
  beats_parts None (Some c) h = absurd (true≢false (sym h))
  beats_parts (Some d) (Some c) h = (c, d, refl, refl, h)

  pub inside_ways : (land : Land K) (a x : ℕ) → In x (below land.size) ⊎ (ways land a x ≡ None)
  inside_ways land a x = go (on land a) (on land x) refl
    where
      go : (s t : Bool) → on land x ≡ t → In x (below land.size) ⊎ (cond (s && t) (land.way a x) None ≡ None)
      go true true e = inl (in_below land.size x (ltb-true _ _ e))
      go true false e = inr refl
      go false t e = inr refl

  lesser_still : (c d e : K.C) → K.less d c ≡ true → K.less d e ≡ false → K.less e c ≡ true
  lesser_still c d e h k =
      ⊎_elim (λ t. t) (λ f. absurd (true≢false (sym h ∙ go (K.less c e) refl f))) (cases_Bool (K.less e c))
    where
      go : (t : Bool) → K.less c e ≡ t → K.less e c ≡ false → K.less d c ≡ false
      go false u f = ap (K.less d) (K.laws.trichotomy c e u f) ∙ k
      go true u f = absurd (true≢false (sym (K.laws.transitive d c e h u) ∙ k))

  pub aside_test : (land : Land K) (a b : ℕ) → beats (cheapest K nat_eq (ways land) (below land.size) a b) (ways land a b) ≡ true → SetAside K (ways land) a b
  aside_test land a b h =
      let p = beats_parts _ _ h in
      (p.0, p.1, p.2, cheapest_walk K nat_eq eqb_refl eqb→eq (ways land) (below land.size) a b p.1 p.3, p.4)

  pub test_aside : (land : Land K) (a b : ℕ) → SetAside K (ways land) a b → beats (cheapest K nat_eq (ways land) (below land.size) a b) (ways land a b) ≡ true
  test_aside land a b (c, d, e, walk, h) =
      let r = cheapest_bound K nat_eq eqb_refl eqb→eq (ways land) (below land.size) (inside_ways land) a b d walk in
      rw (e, r.1) (lesser_still c d r.0 h r.2)

  abbrev pub set_aside? : (land : Land K) (a b : ℕ) → Dec (SetAside K (ways land) a b)
  set_aside? land =
      let d = cheapest K nat_eq (ways land) (below land.size) in
      λ a b. decide (beats (d a b) (ways land a b)) (aside_test land a b) (test_aside land a b)

  -- the links that rise
  abbrev pub rising : (ℕ → ℕ) → (ℕ → ℕ → Price K) → ℕ → ℕ → Price K
  rising level link a b = cond (nat_lt (level a) (level b)) (link a b) None

  pub add_some : (p q : Price K) (c : K.C) → add K p q ≡ Some c → (x : K.C) × (y : K.C) × (p ≡ Some x) × (q ≡ Some y) × (K.plus x y ≡ c)
  add_some None q c h = absurd (true≢false (sym (ap is_some h)))
  add_some (Some x) None c h = absurd (true≢false (sym (ap is_some h)))
  add_some (Some x) (Some y) c h = (x, y, refl, refl, cc)

  rising_parts : (level : ℕ → ℕ) (link : ℕ → ℕ → Price K) (a b : ℕ) (c : K.C) → rising level link a b ≡ Some c → (level a < level b) × (link a b ≡ Some c)
  rising_parts level link a b c h = go (nat_lt (level a) (level b)) refl h
    where
      go : (t : Bool) → nat_lt (level a) (level b) ≡ t → cond t (link a b) None ≡ Some c → (level a < level b) × (link a b ≡ Some c)
      go true e f = (ltb-true _ _ e, f)
      go false e f = absurd (true≢false (sym (ap is_some f)))

  walk_climbs : (level : ℕ → ℕ) (link : ℕ → ℕ → Price K) (a : ℕ) (l : List ℕ) (c : K.C) → along K (rising level link) a l ≡ Some c →
      (along K link a l ≡ Some c) × Rises level a l
  walk_climbs level link a [] c h = (h, tt)
  walk_climbs level link a (x ∷ l) c h =
      let p = add_some (rising level link a x) (along K (rising level link) x l) c h in
      let q = rising_parts level link a x p.0 p.2 in
      let r = walk_climbs level link x l p.1 p.3 in
      ((λ i. add K (q.1 i) (r.0 i)) ∙ ap Some p.4, (q.0, r.1))

  climbs_walk : (level : ℕ → ℕ) (link : ℕ → ℕ → Price K) (a : ℕ) (l : List ℕ) → Rises level a l → along K (rising level link) a l ≡ along K link a l
  climbs_walk level link a [] h = refl
  climbs_walk level link a (x ∷ l) h = rw (lt-ltb (level a) (level x) h.0, climbs_walk level link x l h.1)

  module _ (n : ℕ) (link : ℕ → ℕ → Price K) (inside : (a x : ℕ) → In x (below n) ⊎ (link a x ≡ None)) (level : ℕ → ℕ) where
    inside_rising : (a x : ℕ) → In x (below n) ⊎ (rising level link a x ≡ None)
    inside_rising a x = ⊎_elim (λ h. inl h) (λ e. inr (go (nat_lt (level a) (level x)) e)) (inside a x)
      where
        go : (t : Bool) → link a x ≡ None → cond t (link a x) None ≡ None
        go true e = e
        go false e = refl

    pub some_of : (p : Price K) → is_some p ≡ true → (c : K.C) × (p ≡ Some c)
    some_of None h = absurd (true≢false (sym h))
    some_of (Some c) h = (c, refl)

    pub climb_test : (a b : ℕ) → is_some (cheapest K nat_eq (rising level link) (below n) a b) ≡ true → Climbs level K link a b
    climb_test a b h =
        let s = some_of _ h in
        let p = cheapest_walk K nat_eq eqb_refl eqb→eq (rising level link) (below n) a b s.0 s.1 in
        let q = walk_climbs level link a p.0 s.0 p.2 in
        (p.0, s.0, p.1, q.0, q.1)

    pub test_climb : (a b : ℕ) → Climbs level K link a b → is_some (cheapest K nat_eq (rising level link) (below n) a b) ≡ true
    test_climb a b (l, c, e, f, r) =
        let p = cheapest_bound K nat_eq eqb_refl eqb→eq (rising level link) (below n) inside_rising a b c (l, e, climbs_walk level link a l r ∙ f) in
        ap is_some p.1

    abbrev pub climbs? : (a b : ℕ) → Dec (Climbs level K link a b)
    climbs? =
        let d = cheapest K nat_eq (rising level link) (below n) in
        λ a b. decide (is_some (d a b)) (climb_test a b) (test_climb a b)
