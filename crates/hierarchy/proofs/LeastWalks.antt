-- Shown: least walks exist, cost the distance, which is not Over, and pass no place twice, on every land of lawful ways.
--   Fair  every way has a way cost
use Rattle.std.proofs.Common.{◌≡◌, ℕ, suc, ◌<◌, ◌≤◌, Bool, true, false, ◌&&◌, ◌↔◌, List, [], ◌∷◌, length, Some, None, sym, refl, ap, ◌∙◌, subst, ⊎_elim, arith}
use Rattle.std.proofs.lemmas.Bool.{true≢false, and_from, cond-true}
use Rattle.std.specs.List.{AllByRecursion as All}
use Rattle.cost.specs.Laws.{total, all_ways}
use Rattle.ground.specs.Grounds.{OnlyWayCosts}
use Rattle.hierarchy.specs.Kinds.{Kind, Price, add}
use Rattle.hierarchy.specs.Walks.{end, along, Least, Joined}
use Rattle.hierarchy.specs.Scales.{le_trans_c}
use Rattle.hierarchy.specs.Lands.{Land, on, ways, Terrain, land_at}
use Rattle.hierarchy.specs.Deciders.{add_some}
use Rattle.hierarchy.specs.Levelled.{Lawful}
use Rattle.hierarchy.specs.LeastWalks.{distance, Distinct, LeastWalksKeep}
use Rattle.hierarchy.proofs.Prices.{Has, some_has, has_some, has_or_none, none_some, cond_has, has_parts, Le, le_has, le_costs}
use Rattle.hierarchy.proofs.Distances.{Region, way, D, distance_D, DBelow, DLeast, least_D}
use Rattle.hierarchy.proofs.Unbeaten.{way_ends}
use Rattle.hierarchy.proofs.Distinct.{distinct_few}
use Rattle.hierarchy.proofs.Cycles.{Cut, cut, simple}

module _ (K : Kind) where
  abbrev pub Fair : (ℕ → ℕ → Price K) → Type 0
  Fair w = (a b : ℕ) (c : K.C) → w a b ≡ Some c → K.fair c ≡ true

  -- only Over is at least Over
  over_only : (c : K.C) → K.less c K.over ≡ false → c ≡ K.over
  over_only c h = K.laws.trichotomy c K.over h (K.laws.over_greatest c)

  -- what costs, with a way more, at most c costs less than c, if c is not Over
  less_by_way : (p x c : K.C) → K.fair x ≡ true → K.less c (K.plus p x) ≡ false → (c ≡ K.over → ⊥) → K.less p c ≡ false → ⊥
  less_by_way p x c f h n k =
      true≢false (sym (K.laws.grows p x f (λ e. n (over_only c (ap (K.less c) (sym e) ∙ h)))) ∙ le_trans_c K (K.plus p x) c p h k)

module _ (K : Kind) (w : ℕ → ℕ → Price K) (fair : Fair K w) where
  -- the costs of the ways of a walk
  costs : (a : ℕ) (l : List ℕ) (c : K.C) → along K w a l ≡ Some c →
      (ws : List K.C) × (length ws ≡ length l) × (all_ways K.fair ws ≡ true) × (total K.zero K.plus ws ≡ c)
  costs a [] c e = ([], refl, refl, cc)
  costs a (x ∷ l) c e =
      let p = add_some K (w a x) (along K w x l) c e in
      let r = costs x l p.1 p.3 in
      (p.0 ∷ r.0, ap suc r.1, and_from _ _ (fair a x p.0 p.2) r.2, ap (K.plus p.0) r.3 ∙ p.4)

  few-not-over : (a : ℕ) (l : List ℕ) (c : K.C) → length l ≤ 255 → along K w a l ≡ Some c → c ≡ K.over → ⊥
  few-not-over a l c h e o = let r = costs a l c e in K.laws.reaches r.0 (omega (arith, r.1)) r.2 (r.3 ∙ o)

  cut_cheaper : (a : ℕ) (l : List ℕ) (c : K.C) → Least K w a (end a l) c → along K w a l ≡ Some c → (c ≡ K.over → ⊥) → Cut K w a l → ⊥
  cut_cheaper a l c (v, least) e n (x, y, q, f, h, d) =
      let low : Le K (add K (along K w a q) (w x y)) (Some c) = subst (Le K (add K (along K w a q) (w x y))) e h in
      let s = has_some (add K (along K w a q) (w x y)) (le_has low refl) in
      let p = add_some K (along K w a q) (w x y) s.0 s.1 in
      less_by_way K p.0 p.1 c (fair x y p.1 p.3) (le_costs _ c (s.1 ∙ ap Some (sym p.4)) low) n (least p.0 (q, f, p.2))

  least-simple : (a : ℕ) (l : List ℕ) (c : K.C) → Least K w a (end a l) c → along K w a l ≡ Some c → (c ≡ K.over → ⊥) → Distinct (a ∷ l)
  least-simple a l c h e n = ⊎_elim (λ d. d) (λ s. absurd (cut_cheaper a l c h e n s)) (cut K w a l)

module _ (R : Region) where
  pub least-exists : (a b : ℕ) → Joined R.K (way R) a b → (c : R.K.C) × Least R.K (way R) a b c
  least-exists a b (d, v) = let s = has_some (D R a b) (le_has (DBelow R a b d v) refl) in (s.0, DLeast R a b s.0 s.1)

  pub distance_least : (a b : ℕ) (c : R.K.C) → (distance R.land a b ≡ Some c) ↔ Least R.K (way R) a b c
  distance_least a b c = (λ e. DLeast R a b c (sym (distance_D R a b) ∙ e), λ h. distance_D R a b ∙ least_D R a b c h)

  pub distance_none : (a b : ℕ) → (distance R.land a b ≡ None) ↔ (¬ (Joined R.K (way R) a b))
  distance_none a b = (
    λ e j. let s = least-exists a b j in none_some (sym e ∙ (distance_least a b s.0).1 s.1),
    λ n. ⊎_elim (λ h. let s = has_some (distance R.land a b) h in absurd (n (s.0, ((distance_least a b s.0).0 s.1).0))) (λ e. e)
        (has_or_none (distance R.land a b)),
  )

  -- every place after the first is on the land
  along_on : (a : ℕ) (l : List ℕ) → Has (along R.K (way R) a l) → All (λ x. x < R.land.size) l
  along_on a [] h = tt
  along_on a (x ∷ l) h = let p = has_parts R.K (way R a x) _ h in ((way_ends R a x p.0).1, along_on x l p.1)

  few_places : (a : ℕ) (l : List ℕ) → Has (along R.K (way R) a l) → Distinct (a ∷ l) → a < R.land.size → length (a ∷ l) ≤ R.land.size
  few_places a l h d on = distinct_few R.land.size (a ∷ l) d (on, along_on a l h)

  few_ways : (a : ℕ) (l : List ℕ) → Has (along R.K (way R) a l) → Distinct (a ∷ l) → length l ≤ 255
  few_ways a [] h d = omega arith
  few_ways a (x ∷ l) h d =
      omega (arith, few_places a (x ∷ l) h d (way_ends R a x (has_parts R.K (way R a x) _ h).0).0, R.lawful.few)

  module _ (fair : Fair R.K (way R)) where
    least-not-over : (a b : ℕ) (c : R.K.C) → Least R.K (way R) a b c → c ≡ R.K.over → ⊥
    least-not-over a b c ((l, e, f), least) o =
        let q = simple R.K (way R) a l in
        let p = has_some (along R.K (way R) a q.0) (le_has q.2 (some_has _ c f)) in
        few-not-over R.K (way R) fair a q.0 p.0 (few_ways a q.0 (some_has _ p.0 p.1) q.3) p.1
        (over_only R.K p.0 (ap (R.K.less p.0) (sym o) ∙ least p.0 (q.0, q.1 ∙ e, p.1)))

    least_distinct : (a : ℕ) (l : List ℕ) (c : R.K.C) → Least R.K (way R) a (end a l) c → along R.K (way R) a l ≡ Some c → Distinct (a ∷ l)
    least_distinct a l c h e = least-simple R.K (way R) fair a l c h e (least-not-over a (end a l) c h)

pub least_walks_keep : {K : Kind} (land : Land K) → Lawful land → Fair K (ways land) → LeastWalksKeep land
least_walks_keep {K} land lawful fair =
    let R : Region = record { K = K; land = land; lawful = lawful } in
    record {
      exists = least-exists R;
      computed = distance_least R;
      computed_none = distance_none R;
      simple = least_distinct R fair;
      few = λ a l c h e. few_places R a l (some_has _ c e) (least_distinct R fair a l c h e);
      not-over = least-not-over R fair;
    }

pub fair_land : {K : Kind} (terrain : Terrain K) (s : ℕ → Bool) → OnlyWayCosts K.fair terrain.chart → Fair K (ways (land_at terrain s))
fair_land terrain s only a b c e =
    let t = cond_has (on (land_at terrain s) a && on (land_at terrain s) b) (terrain.chart s a b) (some_has _ c e) in
    only s a b c (sym (cond-true _ (terrain.chart s a b) None t.0) ∙ e)
