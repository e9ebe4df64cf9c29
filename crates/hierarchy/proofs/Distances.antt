-- Shown: between two places there is a distance, which some walk costs and none beats, and which no chain of exact links beats.
--   Region  what the proofs share: a land that keeps to the laws
--   D       the distance, none where there is no walk
--   Exact   each link costs the distance of its ends
use Rattle.std.proofs.Common.{◌≡◌, ℕ, eqb, ◌≢◌, ◌⊎◌, List, [], ◌∷◌, Some, sym, refl, ◌∙◌, subst, inl, inr, eqb→eq}
use lib.Dec.{eqb_refl}
use Rattle.std.proofs.lemmas.Bool.{cases_eq}
use Rattle.hierarchy.specs.Kinds.{Kind, Price, add}
use Rattle.hierarchy.specs.Walks.{end, along, Walk, Least}
use Rattle.hierarchy.specs.Scales.{scale, scale_laws, T_false, false-T}
use Rattle.hierarchy.specs.Shortest.{least, least_is, least_most, least-way, fast_is, below, join}
use Rattle.hierarchy.specs.Lands.{Land, ways}
use Rattle.hierarchy.specs.Chains.{Without}
use Rattle.hierarchy.specs.Deciders.{inside_ways}
use Rattle.hierarchy.specs.Levelled.{Lawful}
use Rattle.hierarchy.specs.LeastWalks.{distance}
use Rattle.hierarchy.proofs.Prices.{Has, has_some, Le, le_refl, le_trans, le_anti, le-add, le-kept, le_has}
use Rattle.hierarchy.proofs.Turned.{turned, end_turned, along_turned}

pub record Region : Type 1 where
  pub K : Kind
  pub land : Land K
  pub lawful : Lawful land

module _ (R : Region) where
  abbrev pub way : ℕ → ℕ → Price R.K
  way = ways R.land

  pub D : ℕ → ℕ → Price R.K
  D = least (scale R.K) eqb way (below R.land.size)

  -- the distance is what is computed
  pub distance_D : (a b : ℕ) → distance R.land a b ≡ D a b
  unfolding D
  distance_D a b = λ i. fast_is eqb eqb→eq (scale R.K) way (below R.land.size) (below R.land.size) i a b

  pub DWalk : (a b : ℕ) → (l : List ℕ) × (end a l ≡ b) × (along R.K way a l ≡ D a b)
  unfolding D
  DWalk = least_is (scale R.K) (scale_laws R.K) eqb eqb_refl eqb→eq way (below R.land.size)

  pub DMost : (a : ℕ) (l : List ℕ) → Le R.K (D a (end a l)) (along R.K way a l)
  unfolding D
  DMost a l =
      record { holds = least_most (scale R.K) (scale_laws R.K) eqb eqb_refl eqb→eq way (below R.land.size) (inside_ways R.K R.land) l a }

  pub DWay : (a b : ℕ) → Le R.K (D a b) (way a b)
  unfolding D
  DWay a b = record { holds = least-way (scale R.K) (scale_laws R.K) eqb eqb_refl eqb→eq way (below R.land.size) a b }

  pub DTri : (a b c : ℕ) → Le R.K (D a c) (add R.K (D a b) (D b c))
  DTri a b c =
      let w = join (scale R.K) (scale_laws R.K) eqb eqb_refl eqb→eq way a b c (D a b) (D b c) (DWalk a b) (DWalk b c) in
      subst (Le R.K (D a c)) w.2 (subst (λ z. Le R.K (D a z) (along R.K way a w.0)) w.1 (DMost a w.0))

  DTurn : (a b : ℕ) → Le R.K (D b a) (D a b)
  DTurn a b =
      let q = DWalk a b in
      let h : Le R.K (D (end a q.0) a) (D a b) =
      subst (Le R.K (D (end a q.0) a)) (along_turned R.K way R.lawful.alike a q.0 ∙ q.2)
      (subst (λ z. Le R.K (D (end a q.0) z) (along R.K way (end a q.0) (turned a q.0))) (end_turned a q.0) (DMost (end a q.0) (turned a q.0))) in
      subst (λ z. Le R.K (D z a) (D a b)) q.1 h

  pub DSym : (a b : ℕ) → D a b ≡ D b a
  DSym a b = le_anti (DTurn b a) (DTurn a b)

  pub DBelow : (a b : ℕ) (d : R.K.C) → Walk R.K way a b d → Le R.K (D a b) (Some d)
  DBelow a b d (l, f, g) = subst (Le R.K (D a b)) g (subst (λ z. Le R.K (D a z) (along R.K way a l)) f (DMost a l))

  pub DLeast : (a b : ℕ) (c : R.K.C) → D a b ≡ Some c → Least R.K way a b c
  DLeast a b c e =
      let q = DWalk a b in
      ((q.0, q.1, q.2 ∙ e), λ d w. false-T R.K _ (subst (λ p. Le R.K p (Some d)) e (DBelow a b d w)).holds)

  pub least_D : (a b : ℕ) (c : R.K.C) → Least R.K way a b c → D a b ≡ Some c
  least_D a b c (w, h) =
      let q = DWalk a b in
      let low = DBelow a b c w in
      let d = has_some (D a b) (le_has low refl) in
      le_anti low (subst (Le R.K (Some c)) (sym d.1) (record { holds = T_false R.K _ (h d.0 (q.0, q.1, q.2 ∙ d.1)) }))

  abbrev pub Exact : (ℕ → ℕ → Price R.K) → Type 0
  Exact w = (a b : ℕ) → Has (w a b) → w a b ≡ D a b

  module _ (w : ℕ → ℕ → Price R.K) (exact : Exact w) where
    pub exact_most : (a b : ℕ) → Le R.K (D a b) (w a b)
    exact_most a b = le-kept (D a b) (w a b) (λ h. sym (exact a b h))

    pub DChain : (a : ℕ) (l : List ℕ) → Le R.K (D a (end a l)) (along R.K w a l)
    DChain a [] = DMost a []
    DChain a (y ∷ l) = le_trans (DTri a y (end y l)) (le-add (exact_most a y) (DChain y l))

    -- a chain that meets v costs no less than going by v
    pub by_or_without : (v a : ℕ) (l : List ℕ) → Without v l ⊎ Le R.K (add R.K (D a v) (D v (end a l))) (along R.K w a l)
    by_or_without v a [] = inl tt
    by_or_without v a (y ∷ l) = go (by_or_without v y l) (cases_eq y v)
      where
        go : Without v l ⊎ Le R.K (add R.K (D y v) (D v (end y l))) (along R.K w y l) → (y ≡ v) ⊎ (y ≢ v) →
            Without v (y ∷ l) ⊎ Le R.K (add R.K (D a v) (D v (end y l))) (along R.K w a (y ∷ l))
        go r (inl e) =
            inr (subst (λ z. Le R.K (add R.K (D a z) (D z (end y l))) (along R.K w a (y ∷ l))) e (le-add (exact_most a y) (DChain y l)))
        go (inl o) (inr n) = inl (n, o)
        go (inr o) (inr n) =
            inr (le_trans (le-add (DTri a y v) le_refl)
            (subst (λ z. Le R.K z (along R.K w a (y ∷ l))) (sym ((scale_laws R.K).assoc (D a y) (D y v) (D v (end y l)))) (le-add (exact_most a y) o)))
