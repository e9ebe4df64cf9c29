-- Shown: a chain of links is a walk, and where there is a walk there is a least one.
use Rattle.std.proofs.Common.{◌≡◌, ℕ, ◌<◌, Bool, true, false, cond, not, ◌&&◌, eqb, List, [], ◌∷◌, ◌++◌, is_some, Some, None, sym, refl, ap, ◌∙◌, eqb→eq}
use lib.Dec.{eqb_refl}
use Rattle.std.proofs.lemmas.Bool.{true≢false, ltb-true}
use Rattle.hierarchy.specs.Kinds.{Kind, Price}
use Rattle.hierarchy.specs.Walks.{end, along, Walk, Least}
use Rattle.hierarchy.specs.Scales.{scale, scale_laws}
use Rattle.hierarchy.specs.Shortest.{below, join}
use Rattle.hierarchy.specs.Lands.{Land, on, ways}
use Rattle.hierarchy.specs.Chains.{Steps}
use Rattle.hierarchy.specs.Books.{Book, link}
use Rattle.hierarchy.specs.Deciders.{cheapest, cheapest_walk, cheapest_bound, inside_ways, add_some}
use Rattle.hierarchy.specs.Levelled.{WellLevelled}
use Rattle.hierarchy.proofs.Prices.{same_bound}

module _ (R : ℕ → ℕ → Type 0) where
  pub steps_parts : (a : ℕ) (l m : List ℕ) → Steps R a (l ++ m) → Steps R a l × Steps R (end a l) m
  steps_parts a [] m h = (tt, h)
  steps_parts a (x ∷ l) m h = let r = steps_parts x l m h.1 in ((h.0, r.0), r.1)

  pub steps_join : (a : ℕ) (l m : List ℕ) → Steps R a l → Steps R (end a l) m → Steps R a (l ++ m)
  steps_join a [] m h k = k
  steps_join a (x ∷ l) m h k = (h.0, steps_join x l m h.1 k)

module _ {K : Kind} (land : Land K) (book : Book K) where
  abbrev pub Linked : ℕ → ℕ → Type 0
  Linked x y = (c : K.C) × (link land book x y ≡ Some c)

  pub link_on : (a b : ℕ) (c : K.C) → link land book a b ≡ Some c → b < land.size
  link_on a b c h = go (on land a) (on land b) refl (not (eqb a b)) _ h
    where
      go : (s t : Bool) → on land b ≡ t → (u : Bool) (p : Price K) → cond (s && (t && u)) p None ≡ Some c → b < land.size
      go true true e u p h = ltb-true _ _ e
      go true false e u p h = absurd (true≢false (sym (ap is_some h)))
      go false t e u p h = absurd (true≢false (sym (ap is_some h)))

  pub chain_there : (a : ℕ) (l : List ℕ) (c : K.C) → along K (link land book) a l ≡ Some c → Steps Linked a l
  chain_there a [] c h = tt
  chain_there a (x ∷ l) c h = let p = add_some K (link land book a x) _ c h in ((p.0, p.2), chain_there x l p.1 p.3)

  abbrev lowest : ℕ → ℕ → Price K
  lowest = cheapest K eqb (ways land) (below land.size)

  -- a walk that costs no more than any
  pub least_walk : (a b : ℕ) (d : K.C) → Walk K (ways land) a b d → (c : K.C) × Least K (ways land) a b c × (K.less d c ≡ false)
  least_walk a b d walk =
      let r = bound d walk in
      (r.0, (cheapest_walk K eqb eqb_refl eqb→eq (ways land) (below land.size) a b r.0 r.1, λ e v. same_bound K (lowest a b) r.0 e r.1 (bound e v)), r.2)
    where
      bound : (e : K.C) → Walk K (ways land) a b e → (c : K.C) × (lowest a b ≡ Some c) × (K.less e c ≡ false)
      bound e v = cheapest_bound K eqb eqb_refl eqb→eq (ways land) (below land.size) (inside_ways K land) a b e v

  module _ {rule : ℕ → ℕ → Bool} {top : ℕ} (w : WellLevelled land rule top book) where
    pub chain_walk : (a : ℕ) (l : List ℕ) (c : K.C) → along K (link land book) a l ≡ Some c → Walk K (ways land) a (end a l) c
    chain_walk a [] c h = ([], refl, h)
    chain_walk a (x ∷ l) c h =
        let p = add_some K (link land book a x) _ c h in
        let r = join (scale K) (scale_laws K) eqb eqb_refl eqb→eq (ways land) a x (end x l) _ _ (w.exact a x p.0 p.2).0 (chain_walk x l p.1 p.3) in
        (r.0, r.1, r.2 ∙ ap Some p.4)
