-- Shown: a visit keeps a book sound.
use Rattle.std.proofs.Common.{◌≡◌, ℕ, ◌+◌, ◌<◌, ◌≤◌, Bool, true, false, ◌&&◌, ◌||◌, eqb, leb, ◌≢◌, ◌⊎◌, List, [], ◌∷◌, ◌++◌, map, length, take, is_some, Some, None, Option, unwrap_or, sym, refl, ap, ◌∙◌, subst, inl, inr, ⊎_elim, arith, length-append}
use lib.ListN.{length-map}
use Rattle.std.proofs.lemmas.Bool.{and_parts, and_from, or_left, or_right, eq-eqb, leb-true, cases_eq, cases_Bool, cond_both}
use Rattle.std.proofs.ByRecursion.{All-map, All-weaker}
use Rattle.std.specs.List.{slice_get, AllByRecursion as All}
use Rattle.hierarchy.specs.declared.Shortcut.{Shortcut}
use Rattle.hierarchy.specs.Kinds.{Price, add}
use Rattle.hierarchy.specs.Walks.{end, along}
use Rattle.hierarchy.specs.Scales.{scale, scale_laws}
use Rattle.hierarchy.specs.Shortest.{In, below, in_below, in_right, in_map, zero_r}
use Rattle.hierarchy.specs.Books.{Book, joins, link}
use Rattle.hierarchy.specs.Chains.{Without, Round}
use Rattle.hierarchy.specs.Linked.{inside_link}
use Rattle.hierarchy.specs.Levels.{select, every, pairs, put, by_way_of, Needs, is_needed, near, needed, shortcut_over, visit}
use Rattle.hierarchy.proofs.Phases.{round?}
use Rattle.hierarchy.proofs.Needed.{needed_needs, need_is_tested}
use Rattle.hierarchy.proofs.Lists.{Pairwise, Before, in_select, all_select, pairwise_select, all_below, rising-below, in_pairs, all_pairs, pairs_rise, every_all, all_nth, nth-map, take-map, nth-append, pairwise_nth}
use Rattle.hierarchy.proofs.Prices.{Has, some_has, has_some, has_or_none, add_has, Le, le_trans, le_anti, le-zero, same_le, le-kept, le_has, at_most, at_most-le, along_less}
use Rattle.hierarchy.proofs.Shape.{Local, arching_local, local_arching}
use Rattle.hierarchy.proofs.Turned.{turned, end_turned, along_turned, local_turned, without_turned}
use Rattle.hierarchy.proofs.Mended.{Instead, mended, put_same, put_other}
use Rattle.hierarchy.proofs.Distances.{Region, D, DTri, Exact, by_or_without}
use Rattle.hierarchy.proofs.Unbeaten.{kept-alike}
use Rattle.hierarchy.proofs.Links.{linked, joins_ends, link_ends, link_loop, link-sym, link_more, link_others, link-joined}
use Rattle.hierarchy.proofs.Sound.{Good, Sound, good_exact, sound_exact}

valued : {A : Type 0} (p : Option A) (d : A) → Has p → p ≡ Some (unwrap_or p d)
valued p d h = let c = has_some p h in rw c.1

module _ (R : Region) (rule : ℕ → ℕ → Bool) (i : ℕ) (book : Book R.K) (v : ℕ) (s : Sound R rule (i + 1) book) (at_top : book.level v ≡ i + 1) where
  abbrev w : ℕ → ℕ → Price R.K
  w = link R.land book

  abbrev by_v : ℕ → ℕ → Price R.K
  by_v = by_way_of R.land book v

  exact : Exact R w
  exact = sound_exact R rule (i + 1) book s

  w_sym : (a b : ℕ) → w a b ≡ w b a
  w_sym = link-sym R.land book.kept (kept-alike R book.kept s.unbeaten) book.shortcuts

  not_v : (a : ℕ) → Has (w a v) → a ≢ v
  not_v a h = (link_ends R.land book.kept book.shortcuts a v h).2

  -- a pair linked to v
  record Beside (a b : ℕ) : Type 0 where
    one : Has (w a v)
    other : Has (w v b)

  by_is : (a b : ℕ) → Beside a b → by_v a b ≡ add R.K (D R a v) (D R v b)
  by_is a b n = λ j. add R.K (exact a v n.one j) (exact v b n.other j)

  by_has : (a b : ℕ) → Beside a b → Has (by_v a b)
  by_has a b n = add_has R.K (w a v) (w v b) n.one n.other

  by_most : (a b : ℕ) → Beside a b → Le R.K (D R a b) (by_v a b)
  by_most a b n = subst (Le R.K (D R a b)) (sym (by_is a b n)) (DTri R a v b)

  -- a chain without v that costs no more than the distance makes a shortcut needless
  needless : (a b : ℕ) → Beside a b → (l : List ℕ) → end a l ≡ b → Local book.level (i + 1) a l → Without v l → Le R.K (along R.K w a l) (D R a b) →
      Round R.K w book.level (i + 1) v a b (by_v a b)
  needless a b n l e h o c = (l, e, local_arching book.level (i + 1) a l h, o, at_most (le_trans c (by_most a b n)) (by_has a b n))

  needed_right : (a b : ℕ) → Beside a b → Needs R.land i book v (a, b) → by_v a b ≡ D R a b
  needed_right a b n needs = le_anti (⊎_elim (λ o. absurd (needs (needless a b n c.0 c.1 c.2 o c.3))) through (by_or_without R w exact v a c.0)) (by_most a b n)
    where
      c : (l : List ℕ) × (end a l ≡ b) × Local book.level (i + 1) a l × Le R.K (along R.K w a l) (D R a b)
      c = s.arches a b (le_has (by_most a b n) (by_has a b n))

      through : Le R.K (add R.K (D R a v) (D R v (end a c.0))) (along R.K w a c.0) → Le R.K (by_v a b) (D R a b)
      through o = le_trans (same_le (by_is a b n ∙ ap (λ z. add R.K (D R a v) (D R v z)) (sym c.1))) (le_trans o c.3)

  needed_alone : (a b : ℕ) → Beside a b → Needs R.land i book v (a, b) → w a b ≡ None
  needed_alone a b n needs =
      ⊎_elim (λ h. absurd (needs (needless a b n (b ∷ []) refl (tt, tt) (not_v b (subst Has (w_sym v b) n.other), tt) (same_le (zero_r (scale R.K) (scale_laws R.K) (w a b) ∙ exact a b h)))))
      (λ e. e) (has_or_none (w a b))

  abbrev cs : List (Shortcut R.K.C)
  cs = book.shortcuts

  abbrev nigh : List ℕ
  nigh = near R.land i book v

  abbrev new : List (ℕ × ℕ)
  new = needed R.land i book v

  abbrev news : List (Shortcut R.K.C)
  news = map (shortcut_over R.land book v) new

  -- what holds of every pair that needs a shortcut
  record Wanted (p : ℕ × ℕ) : Type 0 where
    beside : Beside p.0 p.1
    rises : p.0 < p.1
    needs : Needs R.land i book v p

  abbrev test : ℕ → Bool
  test a = is_some (w a v) && (eqb (book.level a) i || eqb (book.level a) (i + 1))

  all_nigh : All (λ a. Has (w a v)) nigh
  all_nigh =
      All-weaker (λ a. (a < R.land.size) × (test a ≡ true)) (λ a. Has (w a v)) (λ a h. (and_parts (is_some (w a v)) _ h.1).0) nigh
      (all_select test (λ a. a < R.land.size) (below R.land.size) (all_below R.land.size))

  nigh_rises : Pairwise ◌<◌ nigh
  nigh_rises = pairwise_select test ◌<◌ (below R.land.size) (rising-below R.land.size)

  abbrev wants : ℕ × ℕ → Bool
  wants = is_needed R.land i book v

  all_new : All Wanted new
  all_new =
      All-weaker (λ p. (Has (w p.0 v) × Has (w p.1 v) × (p.0 < p.1)) × (wants p ≡ true)) Wanted
      (λ p h. record { beside = record { one = h.0.0; other = subst Has (w_sym p.1 v) h.0.1 }; rises = h.0.2; needs = needed_needs R.land i book v p h.1 })
      (select wants (pairs nigh))
      (all_select wants (λ p. Has (w p.0 v) × Has (w p.1 v) × (p.0 < p.1)) (pairs nigh) (all_pairs (λ a. Has (w a v)) ◌<◌ nigh all_nigh nigh_rises))

  new_rises : Pairwise Before new
  new_rises = pairwise_select wants Before (pairs nigh) (pairs_rise nigh nigh_rises)

  on_land : (a : ℕ) → Has (w a v) → a < R.land.size
  on_land a h = (link_ends R.land book.kept cs a v h).0

  -- an earlier pair is another
  earlier_other : (p q : ℕ × ℕ) → p.0 < p.1 → Before q p → joins (shortcut_over R.land book v q) p.0 p.1 ≡ false
  earlier_other p q h b = ⊎_elim (λ e. absurd (clash b (joins_ends (shortcut_over R.land book v q) p.0 p.1 e))) (λ e. e) (cases_Bool _)
    where
      clash : Before q p → ((q.0 ≡ p.0) × (q.1 ≡ p.1)) ⊎ ((q.0 ≡ p.1) × (q.1 ≡ p.0)) → ⊥
      clash c d = omega arith

  -- the new shortcuts before number j join other places than that one
  none_before : (j a b : ℕ) → slice_get new j ≡ Some (a, b) → a < b → All (λ t. joins t a b ≡ false) (take j news)
  none_before j a b e h =
      subst (All (λ t. joins t a b ≡ false)) (sym (take-map (shortcut_over R.land book v) j new))
      (All-map (λ t. joins t a b ≡ false) (shortcut_over R.land book v) (take j new)
      (All-weaker (λ q. Before q (a, b)) (λ q. joins (shortcut_over R.land book v q) a b ≡ false) (λ q k. earlier_other (a, b) q h k) (take j new)
      (pairwise_nth Before new j (a, b) new_rises e)))

  stays : (j a b : ℕ) (c : R.K.C) → w a b ≡ Some c → linked R.land book.kept (cs ++ take j news) a b ≡ Some c
  stays j a b c e = link_more R.land book.kept cs (take j news) a b (some_has (w a b) c e) ∙ e

  pair_good : (j a b : ℕ) → slice_get new j ≡ Some (a, b) → rule a b ≡ true → Good R rule book.kept (cs ++ take j news) (shortcut_over R.land book v (a, b))
  pair_good j a b e permit =
      let h = all_nth Wanted new j (a, b) all_new e in
      let x = has_some (w a v) h.beside.one in
      let y = has_some (w v b) h.beside.other in
      let f = valued (by_v a b) R.K.over (by_has a b h.beside) in
      let g : by_v a b ≡ Some (R.K.plus x.0 y.0) = (λ k. add R.K (x.1 k) (y.1 k)) in
      record {
        permitted = permit;
        ordered = (h.rises, on_land b (subst Has (w_sym v b) h.beside.other));
        halves = (x.0, y.0, stays j a v x.0 x.1, stays j v b y.0 y.1, cc);
        alone = link_others R.land book.kept cs (take j news) a b (none_before j a b e h.rises) ∙ needed_alone a b h.beside h.needs;
        right = sym (needed_right a b h.beside h.needs) ∙ f;
      }

  new_good : All (λ p. rule p.0 p.1 ≡ true) new → (j : ℕ) (t : Shortcut R.K.C) → slice_get news j ≡ Some t → Good R rule book.kept (cs ++ take j news) t
  new_good permits j t e =
      let m = nth-map (shortcut_over R.land book v) new j t e in
      subst (Good R rule book.kept (cs ++ take j news)) (sym m.2)
      (pair_good j m.0.0 m.0.1 m.1 (all_nth (λ p. rule p.0 p.1 ≡ true) new j m.0 permits m.1))

  after_good : All (λ p. rule p.0 p.1 ≡ true) new → (k : ℕ) (t : Shortcut R.K.C) → slice_get (cs ++ news) k ≡ Some t → Good R rule book.kept (take k (cs ++ news)) t
  after_good permits k t e =
      ⊎_elim (λ h. subst (λ l. Good R rule book.kept l t) (sym h.1) (s.good k t h.0))
      (λ h. subst (λ l. Good R rule book.kept l t) (sym h.2) (new_good permits h.0 t h.1)) (nth-append cs news k t e)

  abbrev w' : ℕ → ℕ → Price R.K
  w' = linked R.land book.kept (cs ++ news)

  less : (x y : ℕ) → Le R.K (w' x y) (w x y)
  less x y = le-kept (w' x y) (w x y) (link_more R.land book.kept cs news x y)

  no_loop : w v v ≡ None
  no_loop = link_loop R.land book.kept cs v

  in_nigh : (a : ℕ) → i ≤ book.level a → Has (w a v) → In a nigh
  in_nigh a h k =
      in_select test (below R.land.size) a (in_below R.land.size a (on_land a k))
      (and_from (is_some (w a v)) _ k (⊎_elim (λ e. or_left _ _ (eq-eqb _ _ e)) (λ n. or_right _ _ (eq-eqb _ _ (one_more n))) (cases_eq (book.level a) i)))
    where
      one_more : book.level a ≢ i → book.level a ≡ i + 1
      one_more n = let b = s.bounded a in omega arith

  abbrev Stand : ℕ → ℕ → Type 0
  Stand = Instead book.level i v at_top s.bounded R.K w w' less no_loop

  module _ (permits : All (λ p. rule p.0 p.1 ≡ true) new) where
    exact' : Exact R w'
    exact' = good_exact R rule book.kept s.unbeaten (cs ++ news) (after_good permits)

    -- a pair that needs a shortcut has it
    by_shortcut : (a z : ℕ) → Beside a z → a ≢ z → In (a, z) new → Stand a z
    by_shortcut a z n d k =
        let nz = subst Has (w_sym v z) n.other in
        let t = shortcut_over R.land book v (a, z) in
        let h = link-joined R.land book.kept (cs ++ news) a z t (in_right t cs news (in_map (shortcut_over R.land book v) (a, z) new k))
        (or_left _ _ (and_from (eqb a a) _ (eq-eqb a a refl) (eq-eqb z z refl))) (on_land a n.one) (on_land z nz) d in
        (z ∷ [], refl, (tt, tt), (not_v z nz, tt), le_trans (same_le (zero_r (scale R.K) (scale_laws R.K) (w' a z) ∙ exact' a z h)) (by_most a z n))

    -- one that needs none has a chain without v
    by_chain : (a z : ℕ) → Round R.K w book.level (i + 1) v a z (by_v a z) → Stand a z
    by_chain a z (l, e, h, o, c) = (l, e, arching_local book.level (i + 1) a l h, o, le_trans (along_less w w' less a l) (at_most-le _ _ c))

    straight : (a z : ℕ) → Beside a z → a ≢ z → In (a, z) (pairs nigh) → Stand a z
    straight a z n d j =
        ⊎_elim (λ e. by_shortcut a z n d (in_select wants (pairs nigh) (a, z) j e)) (by_chain a z)
        (go (round? R.K w book.level (i + 1) v R.land.size (inside_link R.land book) a z (by_v a z)))
      where
        go : (d : Dec (Round R.K w book.level (i + 1) v a z (by_v a z))) → (wants (a, z) ≡ true) ⊎ Round R.K w book.level (i + 1) v a z (by_v a z)
        go (yes r) = inr r
        go (no r) = inl ((need_is_tested R.land i book v (a, z)).1 r)

    back_again : (a z : ℕ) → z ≢ v → Stand z a → Stand a z
    back_again a z nz (m, e, ar, wo, c) = (
      turned z m,
      subst (λ q. end q (turned z m) ≡ z) e (end_turned z m),
      subst (λ q. Local book.level (i + 1) q (turned z m)) e (local_turned book.level (i + 1) z m ar),
      without_turned v z m nz wo,
      le_trans (same_le (subst (λ q. along R.K w' q (turned z m) ≡ along R.K w' z m) e (along_turned R.K w' w'_sym z m)))
          (le_trans c (same_le ((scale_laws R.K).comm (w z v) (w v a) ∙ (λ j. add R.K (w_sym v a j) (w_sym z v j))))),
    )
      where
        w'_sym : (x y : ℕ) → w' x y ≡ w' y x
        w'_sym = link-sym R.land book.kept (kept-alike R book.kept s.unbeaten) (cs ++ news)

    instead : (a z : ℕ) → z ≢ v → i ≤ book.level a → i ≤ book.level z → Has (w a v) → Has (w v z) → Stand a z
    instead a z nz ha hz fa fz = ⊎_elim (λ e. ([], e, tt, tt, le-zero)) apart (cases_eq a z)
      where
        gz : Has (w z v)
        gz = subst Has (w_sym v z) fz

        apart : a ≢ z → Stand a z
        apart d =
            ⊎_elim (straight a z (record { one = fa; other = fz }) d)
            (λ j. back_again a z nz (straight z a (record { one = gz; other = subst Has (w_sym a v) fa }) (λ e. d (sym e)) j))
            (in_pairs nigh a z (in_nigh a ha fa) (in_nigh z hz gz) d)

    abbrev after : Book R.K
    after = record { level = put book.level v i; kept = book.kept; shortcuts = cs ++ news }

    after_arches : (a b : ℕ) → Has (D R a b) → (l : List ℕ) × (end a l ≡ b) × Local (put book.level v i) (i + 1) a l × Le R.K (along R.K w' a l) (D R a b)
    after_arches a b h =
        let c = s.arches a b h in
        let m = mended book.level i v at_top s.bounded R.K w w' less no_loop instead a c.0 c.2 (le_has c.3 h) in
        (m.0, m.1 ∙ c.1, m.2, le_trans m.3 c.3)

    module _ (first : 1 ≤ i) (fits : length cs + length new ≤ 2048) where
      sunk_bounded : (x : ℕ) → put book.level v i x ≤ i + 1
      sunk_bounded x =
          ⊎_elim (λ e. let p = put_same book.level v i x e in omega arith) (λ n. let p = put_other book.level v i x n in let b = s.bounded x in omega arith) (cases_eq x v)

      sunk_grounded : (x : ℕ) → (R.land.free x ≡ true → 0 < put book.level v i x) × (R.land.free x ≡ false → put book.level v i x ≡ 0)
      sunk_grounded x = ⊎_elim here there (cases_eq x v)
        where
          Goal : Type 0
          Goal = (R.land.free x ≡ true → 0 < put book.level v i x) × (R.land.free x ≡ false → put book.level v i x ≡ 0)

          here : x ≡ v → Goal
          here e =
              let p = put_same book.level v i x e in
              let q : book.level x ≡ i + 1 = ap book.level e ∙ at_top in
              (λ f. omega arith, λ f. absurd (let g = (s.grounded x).1 f in omega arith))

          there : x ≢ v → Goal
          there n = let p = put_other book.level v i x n in (λ f. let g = (s.grounded x).0 f in omega arith, λ f. p ∙ (s.grounded x).1 f)

      after_sound : Sound R rule (i + 1) after
      after_sound = record {
        unbeaten = s.unbeaten;
        good = after_good permits;
        arches = after_arches;
        room = omega (arith, length-append cs news, length-map new (shortcut_over R.land book v));
        bounded = sunk_bounded;
        grounded = sunk_grounded;
      }

  pub visit_sound : 1 ≤ i → Sound R rule (i + 1) (visit R.land rule i book v)
  visit_sound first = cond_both (every (λ p. rule p.0 p.1) new && leb (length cs + length new) 2048) _ book (Sound R rule (i + 1)) yielded (λ e. s)
    where
      yielded : (every (λ p. rule p.0 p.1) new && leb (length cs + length new) 2048) ≡ true → Sound R rule (i + 1) (record { level = put book.level v i; kept = book.kept; shortcuts = cs ++ news })
      yielded e = let p = and_parts (every (λ p. rule p.0 p.1) new) _ e in after_sound (every_all _ new p.0) first (leb-true _ _ p.1)
