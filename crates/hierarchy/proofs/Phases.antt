-- Shown: the test whether a walk over the three copies of the places costs at most a price tells whether some arching chain without
-- v does.
use Rattle.std.specs.Prelude.{◌≡◌, ℕ, ◌≤◌, Bool, true, false, cond, T, ◌≢◌, ◌⊎◌, List, [], ◌∷◌, ◌++◌, map, length, is_some, Some, None, ◌==◌, refl}
use Rattle.std.proofs.Common.{sym, ◌∙◌, ap, subst, inl, inr, ⊎_elim, arith, eqb→eq}
use Rattle.std.proofs.Math.Dec.{eqb_refl}
use Rattle.std.proofs.lemmas.Bool.{true≢false, and_parts, and_from, or_cases, or_left, or_right, ltb-true, lt-ltb, eqb-true, eq-eqb, eqb-false, ne_eqb, not_from_false, not-true, cond-true}
use Rattle.hierarchy.specs.Kinds.{Kind, Price, add}
use Rattle.hierarchy.specs.Walks.{end, along, Walk}
use Rattle.hierarchy.specs.Scales.{le_trans_c}
use Rattle.hierarchy.specs.Shortest.{In, below, in_left, in_right, in_map}
use Rattle.hierarchy.specs.Chains.{Rises, Stays, Falls, Arching, Without, AtMost, Round}
use Rattle.hierarchy.specs.Deciders.{decide, cheapest, cheapest_walk, cheapest_bound, add_some}
use Rattle.hierarchy.specs.Phases.{Spot, place, same_spot, spots, allowed, passes, layered, within, some_within}
use Rattle.hierarchy.specs.Phases.Spot.{up, flat, down}

pub spot_refl : (s : Spot) → T (same_spot s s)
spot_refl (up x) = eqb_refl x
spot_refl (flat x) = eqb_refl x
spot_refl (down x) = eqb_refl x

pub spot_same : (s t : Spot) → T (same_spot s t) → s ≡ t
spot_same (up x) (up y) h = ap up (eqb→eq x y h)
spot_same (up x) (flat y) h = absurd h
spot_same (up x) (down y) h = absurd h
spot_same (flat x) (up y) h = absurd h
spot_same (flat x) (flat y) h = ap flat (eqb→eq x y h)
spot_same (flat x) (down y) h = absurd h
spot_same (down x) (up y) h = absurd h
spot_same (down x) (flat y) h = absurd h
spot_same (down x) (down y) h = ap down (eqb→eq x y h)

in_spots : (n : ℕ) (s : Spot) → In (place s) (below n) → In s (spots n)
in_spots n (up x) h = in_left (up x) (map up (below n)) _ (in_map up x (below n) h)
in_spots n (flat x) h = in_right (flat x) (map up (below n)) _ (in_left (flat x) (map flat (below n)) _ (in_map flat x (below n) h))
in_spots n (down x) h = in_right (down x) (map up (below n)) _ (in_right (down x) (map flat (below n)) _ (in_map down x (below n) h))

module _ (level : ℕ → ℕ) (top v : ℕ) where
  abbrev Goes : Spot → List Spot → Type 0
  Goes s [] = Unit {0}
  Goes s (t ∷ m) = (passes level top v s t ≡ true) × Goes t m

  step_of : (s t : Spot) → passes level top v s t ≡ true → allowed level top v s t ≡ true
  step_of s t h = (and_parts (allowed level top v s t) _ h).0

  not_at : (s t : Spot) → passes level top v s t ≡ true → place t ≢ v
  not_at s t h e = eqb-false (place t) v (not-true _ (and_parts (allowed level top v s t) _ h).1) e

  without_of : (s : Spot) (m : List Spot) → Goes s m → Without v (map place m)
  without_of s [] g = tt
  without_of s (t ∷ m) g = (not_at s t g.0, without_of t m g.1)

  falls_of : (y : ℕ) (m : List Spot) → Goes (down y) m → Falls level y (map place m)
  falls_of y [] g = tt
  falls_of y (up z ∷ m) g = absurd (true≢false (sym g.0))
  falls_of y (flat z ∷ m) g = absurd (true≢false (sym g.0))
  falls_of y (down z ∷ m) g = (ltb-true _ _ (step_of (down y) (down z) g.0), falls_of z m g.1)

  -- from a place that the chain came to on one level
  record Flat (y : ℕ) (l : List ℕ) : Type 0 where
    on : List ℕ
    off : List ℕ
    parts : l ≡ on ++ off
    stays : Stays level y on
    falls : Falls level (end y on) off
    short : (length on ≡ 0) ⊎ (level y ≡ top)

  flat_of : (y : ℕ) (m : List Spot) → Goes (flat y) m → Flat y (map place m)
  flat_of y [] g = record { on = []; off = []; parts = refl; stays = tt; falls = tt; short = inl refl }
  flat_of y (up z ∷ m) g = absurd (true≢false (sym g.0))
  flat_of y (flat z ∷ m) g =
      let p = and_parts (level y == level z) _ (step_of (flat y) (flat z) g.0) in
      let f = flat_of z m g.1 in
      record { on = z ∷ f.on; off = f.off; parts = ap (λ l. z ∷ l) f.parts; stays = (eqb-true _ _ p.0, f.stays); falls = f.falls; short = inr (eqb-true _ _ p.1) }
  flat_of y (down z ∷ m) g =
      record { on = []; off = map place (down z ∷ m); parts = refl; stays = tt; falls = (ltb-true _ _ (step_of (flat y) (down z) g.0), falls_of z m g.1); short = inl refl }

  short_of : (x y : ℕ) (l : List ℕ) → level x ≡ level y → (length l ≡ 0) ⊎ (level y ≡ top) → (length (y ∷ l) ≤ 1) ⊎ (level x ≡ top)
  short_of x y l e (inl h) = inl (omega (arith, h))
  short_of x y l e (inr h) = inr (e ∙ h)

  arch_of : (x : ℕ) (m : List Spot) → Goes (up x) m → Arching level top x (map place m)
  arch_of x [] g = record { up = []; flat = []; down = []; parts = refl; rises = tt; stays = tt; falls = tt; short = inl (omega arith) }
  arch_of x (up y ∷ m) g =
      let a = arch_of y m g.1 in
      record {
        up = y ∷ a.up;
        flat = a.flat;
        down = a.down;
        parts = ap (λ l. y ∷ l) a.parts;
        rises = (ltb-true _ _ (step_of (up x) (up y) g.0), a.rises);
        stays = a.stays;
        falls = a.falls;
        short = a.short;
      }
  arch_of x (flat y ∷ m) g =
      let e = eqb-true _ _ (step_of (up x) (flat y) g.0) in
      let f = flat_of y m g.1 in
      record {
        up = [];
        flat = y ∷ f.on;
        down = f.off;
        parts = ap (λ l. y ∷ l) f.parts;
        rises = tt;
        stays = (e, f.stays);
        falls = f.falls;
        short = short_of x y f.on e f.short;
      }
  arch_of x (down y ∷ m) g =
      record {
        up = [];
        flat = [];
        down = map place (down y ∷ m);
        parts = refl;
        rises = tt;
        stays = tt;
        falls = (ltb-true _ _ (step_of (up x) (down y) g.0), falls_of y m g.1);
        short = inl (omega arith);
      }

  -- and back
  passes_by : (s t : Spot) → allowed level top v s t ≡ true → place t ≢ v → passes level top v s t ≡ true
  passes_by s t h k = and_from (allowed level top v s t) _ h (not_from_false _ (ne_eqb (place t) v k))

  goes_falls : (y : ℕ) (l : List ℕ) → Falls level y l → Without v l → Goes (down y) (map down l)
  goes_falls y [] f o = tt
  goes_falls y (z ∷ l) f o = (passes_by (down y) (down z) (lt-ltb _ _ f.0) o.0, goes_falls z l f.1 o.1)

  goes_flat : (y : ℕ) (l m : List ℕ) → Stays level y l → Falls level (end y l) m → (length l ≡ 0) ⊎ (level y ≡ top) → Without v (l ++ m) → Goes (flat y) (map flat l ++ map down m)
  goes_flat y [] [] s f h o = tt
  goes_flat y [] (z ∷ m) s f h o = (passes_by (flat y) (down z) (lt-ltb _ _ f.0) o.0, goes_falls z m f.1 o.1)
  goes_flat y (z ∷ l) m s f (inl h) o = absurd (omega (arith, h))
  goes_flat y (z ∷ l) m s f (inr h) o =
      (passes_by (flat y) (flat z) (and_from _ _ (eq-eqb _ _ s.0) (eq-eqb _ _ h)) o.0, goes_flat z l m s.1 f (inr (sym s.0 ∙ h)) o.1)

  long_top : (x y : ℕ) (l : List ℕ) → level x ≡ level y → (length (y ∷ l) ≤ 1) ⊎ (level x ≡ top) → (length l ≡ 0) ⊎ (level y ≡ top)
  long_top x y l e (inl h) = inl (omega (arith, h))
  long_top x y l e (inr h) = inr (sym e ∙ h)

  goes_up : (x : ℕ) (k l m : List ℕ) → Rises level x k → Stays level (end x k) l → Falls level (end (end x k) l) m → (length l ≤ 1) ⊎ (level (end x k) ≡ top) →
      Without v (k ++ (l ++ m)) → Goes (up x) (map up k ++ (map flat l ++ map down m))
  goes_up x [] [] [] r s f h o = tt
  goes_up x [] [] (y ∷ m) r s f h o = (passes_by (up x) (down y) (lt-ltb _ _ f.0) o.0, goes_falls y m f.1 o.1)
  goes_up x [] (y ∷ l) m r s f h o =
      (passes_by (up x) (flat y) (eq-eqb _ _ s.0) o.0, goes_flat y l m s.1 f (long_top x y l s.0 h) o.1)
  goes_up x (y ∷ k) l m r s f h o = (passes_by (up x) (up y) (lt-ltb _ _ r.0) o.0, goes_up y k l m r.1 s f h o.1)

places : (c : ℕ → Spot) → ((x : ℕ) → place (c x) ≡ x) → (l : List ℕ) → map place (map c l) ≡ l
places c e [] = refl
places c e (x ∷ l) = λ i. e x i ∷ places c e l i

map-append : (l m : List Spot) → map place (l ++ m) ≡ map place l ++ map place m
map-append [] m = refl
map-append (s ∷ l) m = ap (λ k. place s ∷ k) (map-append l m)

three_places : (k l m : List ℕ) → map place (map up k ++ (map flat l ++ map down m)) ≡ k ++ (l ++ m)
three_places k l m =
    map-append (map up k) _ ∙ (λ i. places up (λ x. refl) k i ++ map-append (map flat l) (map down m) i)
    ∙ (λ i. k ++ (places flat (λ x. refl) l i ++ places down (λ x. refl) m i))

end-place : (s : Spot) (m : List Spot) → place (end s m) ≡ end (place s) (map place m)
end-place s [] = refl
end-place s (t ∷ m) = end-place t m

module _ (K : Kind) (link : ℕ → ℕ → Price K) (level : ℕ → ℕ) (top v : ℕ) where
  cost_of_goes : (s : Spot) (m : List Spot) → Goes level top v s m → along K (layered K link level top v) s m ≡ along K link (place s) (map place m)
  cost_of_goes s [] g = refl
  cost_of_goes s (t ∷ m) g = λ i. add K (cond-true _ (link (place s) (place t)) None g.0 i) (cost_of_goes t m g.1 i)

  goes_of_cost : (s : Spot) (m : List Spot) (c : K.C) → along K (layered K link level top v) s m ≡ Some c → Goes level top v s m
  goes_of_cost s [] c h = tt
  goes_of_cost s (t ∷ m) c h =
      let p = add_some K (layered K link level top v s t) (along K (layered K link level top v) t m) c h in (go (passes level top v s t) refl p.0 p.2, goes_of_cost t m p.1 p.3)
    where
      go : (b : Bool) → passes level top v s t ≡ b → (x : K.C) → cond b (link (place s) (place t)) None ≡ Some x → passes level top v s t ≡ true
      go true e x f = e
      go false e x f = absurd (true≢false (sym (ap is_some f)))

  -- a walk over the copies is an arching chain
  arching_walk : (a : ℕ) (t : Spot) (c : K.C) → Walk K (layered K link level top v) (up a) t c →
      (l : List ℕ) × (end a l ≡ place t) × Arching level top a l × Without v l × (along K link a l ≡ Some c)
  arching_walk a t c (m, e, f) =
      let g = goes_of_cost (up a) m c f in
      (map place m, sym (end-place (up a) m) ∙ ap place e, arch_of level top v a m g, without_of level top v (up a) m g, sym (cost_of_goes (up a) m g) ∙ f)

  -- and an arching chain is such a walk
  walk_arching : (a b : ℕ) (l : List ℕ) (c : K.C) → end a l ≡ b → Arching level top a l → Without v l → along K link a l ≡ Some c →
      (t : Spot) × (place t ≡ b) × Walk K (layered K link level top v) (up a) t c
  walk_arching a b l c e r o f =
      let m = map up r.up ++ (map flat r.flat ++ map down r.down) in
      let q : map place m ≡ l = three_places r.up r.flat r.down ∙ sym r.parts in
      let g = goes_up level top v a r.up r.flat r.down r.rises r.stays r.falls r.short (subst (Without v) r.parts o) in
      (end (up a) m, end-place (up a) m ∙ ap (end a) q ∙ e, (m, refl, cost_of_goes (up a) m g ∙ ap (along K link a) q ∙ f))

  module _ (n : ℕ) (inside : (a x : ℕ) → In x (below n) ⊎ (link a x ≡ None)) where
    inside_spots : (s t : Spot) → In t (spots n) ⊎ (layered K link level top v s t ≡ None)
    inside_spots s t = ⊎_elim (λ h. inl (in_spots n t h)) (λ e. inr (go (passes level top v s t) e)) (inside (place s) (place t))
      where
        go : (b : Bool) → link (place s) (place t) ≡ None → cond b (link (place s) (place t)) None ≡ None
        go true e = e
        go false e = refl

    within_parts : (p q : Price K) → within K p q ≡ true → AtMost K p q
    within_parts None q h = absurd (true≢false (sym h))
    within_parts (Some c) None h = absurd (true≢false (sym h))
    within_parts (Some c) (Some d) h = (c, d, refl, refl, not-true _ h)

    round_at : (a b : ℕ) (t : Spot) (q : Price K) → place t ≡ b → within K (cheapest K same_spot (layered K link level top v) (spots n) (up a) t) q ≡ true → Round K link level top v a b q
    round_at a b t q e h =
        let p = within_parts (cheapest K same_spot (layered K link level top v) (spots n) (up a) t) q h in
        let r = arching_walk a t p.0 (cheapest_walk K same_spot spot_refl spot_same (layered K link level top v) (spots n) (up a) t p.0 p.2) in
        (r.0, r.1 ∙ e, r.2, r.3, (p.0, p.1, r.4, p.3, p.4))

    pub round_test : (a b : ℕ) (q : Price K) → some_within K a b q (cheapest K same_spot (layered K link level top v) (spots n)) ≡ true → Round K link level top v a b q
    round_test a b q h =
        let d = cheapest K same_spot (layered K link level top v) (spots n) in
        ⊎_elim (λ k. round_at a b (up b) q refl k)
        (λ k. ⊎_elim (λ j. round_at a b (flat b) q refl j) (λ j. round_at a b (down b) q refl j) (or_cases (within K (d (up a) (flat b)) q) _ k))
        (or_cases (within K (d (up a) (up b)) q) _ h)

    at_spot : (a b : ℕ) (t : Spot) (q : Price K) → place t ≡ b → within K (cheapest K same_spot (layered K link level top v) (spots n) (up a) t) q ≡ true →
        some_within K a b q (cheapest K same_spot (layered K link level top v) (spots n)) ≡ true
    at_spot a b (up x) q e h = or_left _ _ (ap (λ y. within K (cheapest K same_spot (layered K link level top v) (spots n) (up a) (up y)) q) (sym e) ∙ h)
    at_spot a b (flat x) q e h =
        or_right (within K (cheapest K same_spot (layered K link level top v) (spots n) (up a) (up b)) q) _
        (or_left _ _ (ap (λ y. within K (cheapest K same_spot (layered K link level top v) (spots n) (up a) (flat y)) q) (sym e) ∙ h))
    at_spot a b (down x) q e h =
        or_right (within K (cheapest K same_spot (layered K link level top v) (spots n) (up a) (up b)) q) _
        (or_right (within K (cheapest K same_spot (layered K link level top v) (spots n) (up a) (flat b)) q) _
        (ap (λ y. within K (cheapest K same_spot (layered K link level top v) (spots n) (up a) (down y)) q) (sym e) ∙ h))

    pub test_round : (a b : ℕ) (q : Price K) → Round K link level top v a b q → some_within K a b q (cheapest K same_spot (layered K link level top v) (spots n)) ≡ true
    test_round a b q (l, e, r, o, (c, d, f, g, k)) =
        let w = walk_arching a b l c e r o f in
        let p = cheapest_bound K same_spot spot_refl spot_same (layered K link level top v) (spots n) inside_spots (up a) w.0 c w.2 in
        at_spot a b w.0 q w.1 (rw (p.1, g) (not_from_false _ (le_trans_c K p.0 c d p.2 k)))

    abbrev pub round? : (a b : ℕ) (q : Price K) → Dec (Round K link level top v a b q)
    round? =
        let d = cheapest K same_spot (layered K link level top v) (spots n) in
        λ a b q. decide (some_within K a b q d) (round_test a b q) (test_round a b q)
