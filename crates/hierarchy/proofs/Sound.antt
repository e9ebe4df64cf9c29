-- Shown: what every visit is to keep says all that a levelled book keeps to.
--   Good   what holds of a shortcut, over the shortcuts before it
--   Sound  what holds of a book after every visit
use Rattle.std.proofs.Common.{◌≡◌, ℕ, ◌<◌, ◌≤◌, Bool, true, false, ◌≢◌, List, length, take, Some, None, sym, ◌∙◌, subst, ⊎_elim, arith}
use Rattle.std.proofs.lemmas.Bool.{cases_order}
use Rattle.std.specs.List.{slice_get}
use Rattle.hierarchy.specs.declared.Shortcut.{Shortcut}
use Rattle.hierarchy.specs.Kinds.{Price}
use Rattle.hierarchy.specs.Walks.{end, along}
use Rattle.hierarchy.specs.Books.{Book, joins, link}
use Rattle.hierarchy.specs.Chains.{Arching}
use Rattle.hierarchy.specs.Levelled.{WellLevelled}
use Rattle.hierarchy.proofs.Lists.{nth-take}
use Rattle.hierarchy.proofs.Prices.{Has, some_has, has_not_none, Le, le_anti}
use Rattle.hierarchy.proofs.Shape.{Local, local_arching}
use Rattle.hierarchy.proofs.Distances.{Region, D, DLeast, least_D, DChain, Exact}
use Rattle.hierarchy.proofs.Unbeaten.{Unbeaten, kept-exact, kept_ways, kept-alike}
use Rattle.hierarchy.proofs.Links.{linked, joins_turned, link-joined, link-exact, no_link_no_way}

module _ (R : Region) (rule : ℕ → ℕ → Bool) where
  pub record Good (kept : ℕ → ℕ → Price R.K) (cs : List (Shortcut R.K.C)) (s : Shortcut R.K.C) : Type 0 where
    pub permitted : rule s.smaller s.larger ≡ true
    pub ordered : (s.smaller < s.larger) × (s.larger < R.land.size)
    pub halves : (p : R.K.C) × (q : R.K.C) × (linked R.land kept cs s.smaller s.middle ≡ Some p) ×
        (linked R.land kept cs s.middle s.larger ≡ Some q) × (s.cost ≡ R.K.plus p q)
    pub alone : linked R.land kept cs s.smaller s.larger ≡ None
    pub right : D R s.smaller s.larger ≡ Some s.cost

  pub record Sound (top : ℕ) (book : Book R.K) : Type 0 where
    pub unbeaten : Unbeaten R book.kept
    pub good : (k : ℕ) (s : Shortcut R.K.C) → slice_get book.shortcuts k ≡ Some s → Good book.kept (take k book.shortcuts) s
    pub arches : (a b : ℕ) → Has (D R a b) → (l : List ℕ) × (end a l ≡ b) × Local book.level top a l × Le R.K (along R.K (link R.land book) a l) (D R a b)
    pub room : length book.shortcuts ≤ 2048
    pub bounded : (x : ℕ) → book.level x ≤ top
    pub grounded : (x : ℕ) → (R.land.free x ≡ true → 0 < book.level x) × (R.land.free x ≡ false → book.level x ≡ 0)

  -- the links of a list of shortcuts, each of which costs the distance of its ends
  pub good_exact : (kept : ℕ → ℕ → Price R.K) → Unbeaten R kept → (cs : List (Shortcut R.K.C)) →
      ((k : ℕ) (s : Shortcut R.K.C) → slice_get cs k ≡ Some s → Good kept (take k cs) s) → Exact R (linked R.land kept cs)
  good_exact kept u cs good = link-exact R kept (kept-exact R kept u) cs (λ k s e. (good k s e).right)

  module _ (top : ℕ) (book : Book R.K) (s : Sound top book) where
    pub sound_exact : Exact R (link R.land book)
    sound_exact = good_exact book.kept s.unbeaten book.shortcuts s.good

    ends : (k : ℕ) (t : Shortcut R.K.C) → slice_get book.shortcuts k ≡ Some t → (t.smaller < R.land.size) × (t.larger < R.land.size) × (t.smaller ≢ t.larger)
    ends k t e = let o = (s.good k t e).ordered in (omega arith, o.1, λ f. omega arith)

    -- a later shortcut joins other places than an earlier one
    later_other : (j k : ℕ) (t u : Shortcut R.K.C) → slice_get book.shortcuts j ≡ Some t → slice_get book.shortcuts k ≡ Some u → j < k → joins t u.smaller u.larger ≡ true → ⊥
    later_other j k t u e f h i =
        let o = ends k u f in
        has_not_none _ (link-joined R.land book.kept (take k book.shortcuts) u.smaller u.larger t (nth-take book.shortcuts j k t h e) i o.0 o.1 o.2)
        (s.good k u f).alone

    sound_arches : (a b : ℕ) (c : R.K.C) → D R a b ≡ Some c →
        (l : List ℕ) × (end a l ≡ b) × Arching book.level top a l × (along R.K (link R.land book) a l ≡ Some c)
    sound_arches a b c e =
        let o = s.arches a b (some_has (D R a b) c e) in (
          o.0,
          o.1,
          local_arching book.level top a o.0 o.2,
          le_anti o.3 (subst (λ z. Le R.K (D R a z) (along R.K (link R.land book) a o.0)) o.1 (DChain R (link R.land book) sound_exact a o.0)) ∙ e,
        )

    pub sound_levelled : WellLevelled R.land rule top book
    sound_levelled = record {
      arches = λ a b c h. sound_arches a b c (least_D R a b c h);
      exact = λ a b c e. DLeast R a b c (sym (sound_exact a b (some_has _ c e)) ∙ e);
      kept-unless = s.unbeaten;
      kept_ways = kept_ways R book.kept s.unbeaten;
      kept-alike = kept-alike R book.kept s.unbeaten;
      permitted = λ k t e. (s.good k t e).permitted;
      halves = λ k t e. (s.good k t e).halves;
      ordered = λ k t e. (s.good k t e).ordered;
      single = λ j k t u e f h.
          ⊎_elim (λ g. g) (λ g. absurd (⊎_elim (λ i. later_other j k t u e f i h) (λ i. later_other k j u t f e i (joins_turned t u h)) g)) (cases_order j k);
      no_way_beside = λ k t e.
          (let o = ends k t e in no_link_no_way R.land book.kept (take k book.shortcuts) t.smaller t.larger o.0 o.1 o.2 (s.good k t e).alone);
      room = s.room;
      bounded = s.bounded;
      grounded = s.grounded;
    }
