-- Shown: where v sinks from the top by one level, arching chains are mended by chains without v between its neighbours.
use Rattle.std.proofs.Common.{◌≡◌, ℕ, ◌+◌, ◌<◌, ◌≤◌, eqb, ◌≢◌, ◌⊎◌, List, [], ◌∷◌, ◌++◌, None, sym, refl, ap, ◌∙◌, subst, inl, inr, ⊎_elim, arith}
use Rattle.std.proofs.lemmas.Bool.{cases_lt, cases_eq, eq-eqb, ne_eqb, cond-true, cond-false}
use Rattle.hierarchy.specs.Kinds.{Kind, Price, add}
use Rattle.hierarchy.specs.Walks.{end, along}
use Rattle.hierarchy.specs.Scales.{scale_laws}
use Rattle.hierarchy.specs.Shortest.{end-append}
use Rattle.hierarchy.specs.Chains.{Without}
use Rattle.hierarchy.specs.Levels.{put}
use Rattle.hierarchy.proofs.Prices.{Has, has_not_none, Le, le_refl, le-add, has_parts, along-append}
use Rattle.hierarchy.proofs.Shape.{Joint, Inner, Fine, Peak, Local, inner_map, fine_turned}

-- two chains after one another, where what follows is fine whatever stands before
inner_append : (P : ℕ → ℕ → ℕ → Type 0) (a : ℕ) (m l : List ℕ) → Inner P a m → Inner P (end a m) l → ((q : ℕ) → Joint P q (end a m) l) → Inner P a (m ++ l)
inner_append P a [] l h k j = k
inner_append P a (x ∷ []) l h k j = (j a, k)
inner_append P a (x ∷ y ∷ m) l h k j = (h.0, inner_append P x (y ∷ m) l h.1 k j)

pub put_same : (f : ℕ → ℕ) (v i x : ℕ) → x ≡ v → put f v i x ≡ i
put_same f v i x e = cond-true (eqb x v) i (f x) (eq-eqb x v e)

pub put_other : (f : ℕ → ℕ) (v i x : ℕ) → x ≢ v → put f v i x ≡ f x
put_other f v i x n = cond-false (eqb x v) i (f x) (ne_eqb x v n)

-- what may stand before the top may stand before anything
fine_ride : (t p q r : ℕ) → q ≤ t → r ≤ t → Fine t p q t → Fine t p q r
fine_ride t p q r b c (inl h) = inl h
fine_ride t p q r b c (inr (inl h)) = absurd (omega arith)
fine_ride t p q r b c (inr (inr h)) = ⊎_elim (λ k. inr (inl (omega arith))) (λ k. inr (inr (h.0, h.1, omega arith))) (cases_lt r t)

module _ (level : ℕ → ℕ) (i v : ℕ) (at_top : level v ≡ i + 1) (bounded : (x : ℕ) → level x ≤ i + 1) where
  -- fine now, and still fine after v has sunk
  abbrev Both : ℕ → ℕ → ℕ → Type 0
  Both x y z = Peak level (i + 1) x y z × (y ≡ v → (level x < i) ⊎ (level z < i))

  both_turned : (x y z : ℕ) → Both x y z → Both z y x
  both_turned x y z h = (fine_turned (i + 1) (level x) (level y) (level z) h.0, λ e. ⊎_elim inr inl (h.1 e))

  ride : (x a q : ℕ) → Both x a v → Both x a q
  ride x a q h = (
    fine_ride (i + 1) (level x) (level a) (level q) (bounded a) (bounded q) (subst (Fine (i + 1) (level x) (level a)) at_top h.0),
    (λ e. ⊎_elim inl (λ k. absurd (omega arith)) (h.1 e)),
  )

  rear : (q z y : ℕ) → Both v z y → Both q z y
  rear q z y h = both_turned y z q (ride y z q (both_turned v z y h))

  abbrev sunk : ℕ → ℕ
  sunk = put level v i

  -- a place that is lower than v is another, and keeps its level
  lower : (x : ℕ) → level x < i + 1 → sunk x ≡ level x
  lower x h = put_other level v i x (λ e. let k : level x ≡ i + 1 = ap level e ∙ at_top in omega arith)

  below_top : (x y : ℕ) → y ≢ v → level x < level y → sunk x < sunk y
  below_top x y n h = let b = bounded y in let p = lower x (omega arith) in let q = put_other level v i y n in omega arith

  below_v : (x y : ℕ) → y ≡ v → level x < i → sunk x < sunk y
  below_v x y e h = let p = lower x (omega arith) in let q = put_same level v i y e in omega arith

  -- of two places at the top, the one that is not v
  below_other : (x y : ℕ) → x ≡ v → y ≢ v → level y ≡ i + 1 → sunk x < sunk y
  below_other x y e n h = let p = put_same level v i x e in let q = put_other level v i y n in omega arith

  still_fine : (x y z : ℕ) → Both x y z → Peak sunk (i + 1) x y z
  still_fine x y z h = ⊎_elim (λ e. ⊎_elim (λ k. inl (below_v x y e k)) (λ k. inr (inl (below_v z y e k))) (h.1 e)) (λ n. there n h.0) (cases_eq y v)
    where
      there : y ≢ v → Peak level (i + 1) x y z → Peak sunk (i + 1) x y z
      there n (inl k) = inl (below_top x y n k)
      there n (inr (inl k)) = inr (inl (below_top z y n k))
      there n (inr (inr k)) =
          ⊎_elim (λ e. inl (below_other x y e n k.1))
          (λ m. ⊎_elim (λ e. inr (inl (below_other z y e n k.1)))
          (λ o. inr (inr (put_other level v i x m ∙ k.0, put_other level v i y n ∙ k.1, put_other level v i z o ∙ k.2))) (cases_eq z v)) (cases_eq x v)

  joint_rear : (q z : ℕ) (l : List ℕ) → Joint Both v z l → Joint Both q z l
  joint_rear q z [] h = tt
  joint_rear q z (y ∷ l) h = rear q z y h

  joint_ride : (x a : ℕ) (l : List ℕ) → Both x a v → Joint Both x a l
  joint_ride x a [] h = tt
  joint_ride x a (q ∷ l) h = ride x a q h

  without_both : (a : ℕ) (l : List ℕ) → Local level (i + 1) a l → Without v l → Inner Both a l
  without_both a [] h o = tt
  without_both a (x ∷ []) h o = (tt, tt)
  without_both a (x ∷ y ∷ l) h o = ((h.0, λ e. absurd (o.0 e)), without_both x (y ∷ l) h.1 o.1)

  module _ (K : Kind) (w w' : ℕ → ℕ → Price K) (less : (x y : ℕ) → Le K (w' x y) (w x y)) (no_loop : w v v ≡ None) where
    -- what stands in for a, v, z
    abbrev pub Instead : ℕ → ℕ → Type 0
    Instead a z = (m : List ℕ) × (end a m ≡ z) × Local level (i + 1) a m × Without v m × Le K (along K w' a m) (add K (w a v) (w v z))

    -- an arching chain over links
    abbrev Linked : ℕ → ℕ → ℕ → Type 0
    Linked x y z = Peak level (i + 1) x y z × Has (w x y) × Has (w y z)

    -- the chain from a over l, mended; what stood before it may stand before this
    abbrev Mended : ℕ → List ℕ → Type 0
    Mended a l =
        (m : List ℕ) × (end a m ≡ end a l) × Le K (along K w' a m) (along K w a l) × Inner Both a m × ((x : ℕ) → Joint Both x a l → Joint Both x a m)

    kept-place : (a y z : ℕ) (l : List ℕ) → Both a y z → Mended y (z ∷ l) → Mended a (y ∷ z ∷ l)
    kept-place a y z l h (r, e, c, t, j) = (y ∷ r, e, le-add (less a y) c, (j a h, t), λ x k. k)

    begins : (z : ℕ) (l : List ℕ) → z ≢ v → Joint Linked v z l → Joint Both v z l
    begins z [] n h = tt
    begins z (y ∷ l) n h = (h.0, λ e. absurd (n e))

    replaced : (a z : ℕ) (l : List ℕ) → z ≢ v → Joint Linked v z l → Instead a z → Mended z l → Mended a (v ∷ z ∷ l)
    replaced a z l nz h (m, e, ar, wo, c) (r, f, d, t, j) = (
      m ++ r,
      end-append a m r ∙ ap (λ q. end q r) e ∙ f,
      subst (λ q. Le K q (add K (w a v) (add K (w v z) (along K w z l)))) (sym (along-append K w' a m r ∙ ap (λ q. add K (along K w' a m) (along K w' q r)) e))
          (subst (Le K (add K (along K w' a m) (along K w' z r))) ((scale_laws K).assoc (w a v) (w v z) (along K w z l)) (le-add c d)),
      inner_append Both a m r (without_both a m ar wo) (subst (λ q. Inner Both q r) (sym e) t)
          (λ q. subst (λ y. Joint Both q y r) (sym e) (joint_rear q z r (j v (begins z l nz h)))),
      (λ x k. joint_ride x a (m ++ r) k),
    )

    module _ (instead : (a z : ℕ) → z ≢ v → i ≤ level a → i ≤ level z → Has (w a v) → Has (w v z) → Instead a z) where
      by_v : (a z : ℕ) (l : List ℕ) → Linked a v z → Joint Linked v z l → Mended z l → Mended v (z ∷ l) → Mended a (v ∷ z ∷ l)
      by_v a z l h j o p = at (cases_lt (level a) i) (cases_lt (level z) i)
        where
          nz : z ≢ v
          nz e = has_not_none (w v z) h.2 (ap (w v) e ∙ no_loop)

          at : (level a < i) ⊎ (i ≤ level a) → (level z < i) ⊎ (i ≤ level z) → Mended a (v ∷ z ∷ l)
          at (inl k) q = kept-place a v z l (h.0, λ e. inl k) p
          at (inr k) (inl q) = kept-place a v z l (h.0, λ e. inr q) p
          at (inr k) (inr q) = replaced a z l nz j (instead a z nz k q h.1 h.2) o

      mend_here : (a y z : ℕ) (l : List ℕ) → Linked a y z → Joint Linked y z l → Mended z l → Mended y (z ∷ l) → Mended a (y ∷ z ∷ l)
      mend_here a y z l h j o p =
          ⊎_elim (λ e. subst (λ b. Linked a b z → Joint Linked b z l → Mended b (z ∷ l) → Mended a (b ∷ z ∷ l)) (sym e) (λ h' j' p'. by_v a z l h' j' o p') h j p)
          (λ n. kept-place a y z l (h.0, λ e. absurd (n e)) p) (cases_eq y v)

      mend : (a : ℕ) (l : List ℕ) → Inner Linked a l → Mended a l
      mend a [] h = ([], refl, le_refl, tt, λ x j. j)
      mend a (y ∷ []) h = (y ∷ [], refl, le-add (less a y) le_refl, (tt, tt), λ x j. j)
      mend a (y ∷ z ∷ l) h = mend_here a y z l h.0 h.1.0 (mend z l h.1.1) (mend y (z ∷ l) h.1)

      all_linked : (a : ℕ) (l : List ℕ) → Local level (i + 1) a l → Has (along K w a l) → Inner Linked a l
      all_linked a [] h f = tt
      all_linked a (y ∷ []) h f = (tt, tt)
      all_linked a (y ∷ z ∷ l) h f =
          let p = has_parts K (w a y) (along K w y (z ∷ l)) f in
          let q = has_parts K (w y z) (along K w z l) p.1 in
          ((h.0, p.0, q.0), all_linked y (z ∷ l) h.1 p.1)

      -- what v did is done without it
      pub mended : (a : ℕ) (l : List ℕ) → Local level (i + 1) a l → Has (along K w a l) →
          (m : List ℕ) × (end a m ≡ end a l) × Local (put level v i) (i + 1) a m × Le K (along K w' a m) (along K w a l)
      mended a l h f =
          let o = mend a l (all_linked a l h f) in
          (o.0, o.1, inner_map Both (Peak sunk (i + 1)) still_fine a o.0 o.3, o.2)
