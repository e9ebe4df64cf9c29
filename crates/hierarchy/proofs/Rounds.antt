-- Shown: levelling makes a well levelled book, of every lawful land, by every rule, of any number of levels from 1.
use Rattle.std.proofs.Common.{◌≡◌, ℕ, zero, suc, ◌+◌, ◌-◌, ◌<◌, ◌≤◌, Bool, true, false, cond, eqb, ◌≢◌, ◌⊎◌, List, [], ◌∷◌, subst, inl, inr, ⊎_elim, arith}
use Rattle.std.proofs.lemmas.Bool.{cases_eq, eq-eqb, ne_eqb, eqb-true, cond-true, cond-false, cond_both}
use Rattle.hierarchy.specs.Kinds.{Kind}
use Rattle.hierarchy.specs.Walks.{along}
use Rattle.hierarchy.specs.Shortest.{below}
use Rattle.hierarchy.specs.Lands.{Land}
use Rattle.hierarchy.specs.Books.{Book, link}
use Rattle.hierarchy.specs.Levels.{raise, start, visit, visit_each, round, rounds, levelling}
use Rattle.hierarchy.specs.Levelled.{Lawful, WellLevelled}
use Rattle.hierarchy.proofs.Prices.{Has, some_has, has_some, none_some, Le, le_trans, le-kept, le_has, has_parts, along_less}
use Rattle.hierarchy.proofs.Shape.{Peak, Local, inner_map}
use Rattle.hierarchy.proofs.Distances.{Region, way}
use Rattle.hierarchy.proofs.Unbeaten.{start_unbeaten, way_ends, way_apart, kept_ways, enough}
use Rattle.hierarchy.proofs.Links.{link-way}
use Rattle.hierarchy.proofs.Sound.{Sound, sound_levelled}
use Rattle.hierarchy.proofs.Visited.{visit_sound}

abbrev Raised : ℕ → (ℕ → ℕ) → ℕ → Type 0
Raised i f x = ((f x ≡ i) × (raise i f x ≡ i + 1)) ⊎ ((f x ≢ i) × (raise i f x ≡ f x))

raised : (i : ℕ) (f : ℕ → ℕ) (x : ℕ) → Raised i f x
raised i f x = ⊎_elim (λ e. inl (e, cond-true (eqb (f x) i) (i + 1) (f x) (eq-eqb _ _ e))) (λ n. inr (n, cond-false (eqb (f x) i) (i + 1) (f x) (ne_eqb _ _ n))) (cases_eq (f x) i)

-- what is lower stays lower
raise-lt : (i : ℕ) (f : ℕ → ℕ) → ((x : ℕ) → f x ≤ i) → (x y : ℕ) → f x < f y → raise i f x < raise i f y
raise-lt i f b x y h = go (raised i f x) (raised i f y)
  where
    go : Raised i f x → Raised i f y → raise i f x < raise i f y
    go p q = let m = b y in omega arith

raise_peak : (i : ℕ) (f : ℕ → ℕ) → ((x : ℕ) → f x ≤ i) → (x y z : ℕ) → Peak f i x y z → Peak (raise i f) (i + 1) x y z
raise_peak i f b x y z (inl h) = inl (raise-lt i f b x y h)
raise_peak i f b x y z (inr (inl h)) = inr (inl (raise-lt i f b z y h))
raise_peak i f b x y z (inr (inr h)) = inr (inr (up x h.0, up y h.1, up z h.2))
  where
    up : (u : ℕ) → f u ≡ i → raise i f u ≡ i + 1
    up u e = cond-true (eqb (f u) i) (i + 1) (f u) (eq-eqb _ _ e)

module _ (R : Region) (rule : ℕ → ℕ → Bool) where
  raise_sound : (i : ℕ) (book : Book R.K) → 1 ≤ i → Sound R rule i book →
      Sound R rule (i + 1) (record { level = raise i book.level; kept = book.kept; shortcuts = book.shortcuts })
  raise_sound i book first s = record {
    unbeaten = s.unbeaten;
    good = s.good;
    arches = λ a b h.
        (let o = s.arches a b h in
        (o.0, o.1, inner_map (Peak book.level i) (Peak (raise i book.level) (i + 1)) (raise_peak i book.level s.bounded) a o.0 o.2, o.3));
    room = s.room;
    bounded = λ x. (let c = raised i book.level x in let b = s.bounded x in omega arith);
    grounded = λ x.
        (let c = raised i book.level x in
        (λ f. let g = (s.grounded x).0 f in omega arith, λ f. let g = (s.grounded x).1 f in omega arith));
  }

  visits_sound : (i : ℕ) (vs : List ℕ) (book : Book R.K) → 1 ≤ i → Sound R rule (i + 1) book → Sound R rule (i + 1) (visit_each R.land rule i vs book)
  visits_sound i [] book first s = s
  visits_sound i (v ∷ vs) book first s =
      visits_sound i vs (cond (eqb (book.level v) (i + 1)) (visit R.land rule i book v) book) first
      (cond_both (eqb (book.level v) (i + 1)) (visit R.land rule i book v) book (Sound R rule (i + 1))
      (λ e. visit_sound R rule i book v s (eqb-true _ _ e) first) (λ e. s))

  round_sound : (i : ℕ) (book : Book R.K) → 1 ≤ i → Sound R rule i book → Sound R rule (i + 1) (round R.land rule i book)
  round_sound i book first s = visits_sound i (below R.land.size) _ first (raise_sound i book first s)

  rounds_sound : (k i top : ℕ) (book : Book R.K) → 1 ≤ i → k + i ≡ top → Sound R rule i book → Sound R rule top (rounds R.land rule k i book)
  rounds_sound zero i top book first e s = subst (λ m. Sound R rule m book) (let f : i ≡ top = omega arith in f) s
  rounds_sound (suc k) i top book first e s = rounds_sound k (i + 1) top (round R.land rule i book) (omega arith) (omega arith) (round_sound i book first s)

  abbrev begun : Book R.K
  begun = start R.land

  -- the end of a way is free, and stands at level 1
  end-level : (a b : ℕ) → Has (way R a b) → begun.level a ≡ 1
  end-level a b h = let c = has_some (way R a b) h in cond-true (R.land.free a) 1 0 (R.lawful.ends_free a b c.0 c.1)

  kept_has : (a b : ℕ) → Has (begun.kept a b) → Has (way R a b)
  kept_has a b h = let c = has_some (begun.kept a b) h in some_has (way R a b) c.0 (kept_ways R begun.kept (start_unbeaten R) a b c.0 c.1)

  kept_levels : (a b : ℕ) → Has (begun.kept a b) → (begun.level a ≡ 1) × (begun.level b ≡ 1)
  kept_levels a b h = (end-level a b (kept_has a b h), end-level b a (subst Has (R.lawful.alike a b) (kept_has a b h)))

  kept_linked : (a b : ℕ) → Le R.K (link R.land begun a b) (begun.kept a b)
  kept_linked a b = le-kept (link R.land begun a b) (begun.kept a b) go
    where
      go : Has (begun.kept a b) → link R.land begun a b ≡ begun.kept a b
      go h =
          let e = way_ends R a b (kept_has a b h) in
          link-way R.land begun.kept [] a b e.0 e.1 (way_apart R a b (kept_has a b h)) h

  all_top : (a : ℕ) (l : List ℕ) → Has (along R.K begun.kept a l) → Local begun.level 1 a l
  all_top a [] h = tt
  all_top a (x ∷ []) h = (tt, tt)
  all_top a (x ∷ y ∷ l) h =
      let p = has_parts R.K (begun.kept a x) (along R.K begun.kept x (y ∷ l)) h in
      let q = has_parts R.K (begun.kept x y) (along R.K begun.kept y l) p.1 in
      let e = kept_levels a x p.0 in
      (inr (inr (e.0, e.1, (kept_levels x y q.0).1)), all_top x (y ∷ l) p.1)

  start_sound : Sound R rule 1 begun
  start_sound = record {
    unbeaten = start_unbeaten R;
    good = λ k s e. absurd (none_some e);
    arches = λ a b h.
        (let c = enough R begun.kept (start_unbeaten R) a b in
        (c.0, c.1, all_top a c.0 (le_has c.2 h), le_trans (along_less begun.kept (link R.land begun) kept_linked a c.0) c.2));
    room = omega arith;
    bounded = λ x. low (R.land.free x);
    grounded = λ x. ((λ e. let f = cond-true {A = ℕ} (R.land.free x) 1 0 e in omega arith), (λ e. cond-false {A = ℕ} (R.land.free x) 1 0 e));
  }
    where
      low : (t : Bool) → cond t 1 0 ≤ 1
      low true = omega arith
      low false = omega arith

pub well_levelled : {K : Kind} (land : Land K) → Lawful land → (rule : ℕ → ℕ → Bool) (levels : ℕ) → 1 ≤ levels → WellLevelled land rule levels (levelling land rule levels)
well_levelled {K} land lawful rule levels h =
    let R : Region = record { K = K; land = land; lawful = lawful } in
    sound_levelled R rule levels (levelling land rule levels) (rounds_sound R rule (levels - 1) 1 levels (start land) (omega arith) (omega arith) (start_sound R rule))
