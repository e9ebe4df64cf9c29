-- Shown: between two places just below the top or at it, an arching chain without v goes by detour steps, and a walk over these is no
-- cheaper than some such chain.
--   Tops  all places of a list but the last stand at the top
use Rattle.std.proofs.Common.{◌≡◌, ℕ, ◌+◌, ◌≤◌, Bool, true, false, cond, not, ◌&&◌, ◌||◌, eqb, ◌≢◌, ◌⊎◌, List, [], ◌∷◌, ◌++◌, length, is_some, Some, None, sym, refl, ap, ◌∙◌, subst, inl, inr, ⊎_elim, arith}
use Rattle.std.proofs.lemmas.Bool.{true≢false, cases_eq, cases_lt, and_from, or_cases, or_left, or_right, eqb-true, eq-eqb, ne_eqb, not-true, not_from_false, eqb-false, cond-true}
use Rattle.hierarchy.specs.Kinds.{Kind, Price, add}
use Rattle.hierarchy.specs.Walks.{end, along, Walk}
use Rattle.hierarchy.specs.Chains.{Rises, Stays, Falls, Arching, Without}
use Rattle.hierarchy.specs.Shortest.{end-append}
use Rattle.hierarchy.specs.Deciders.{add_some}
use Rattle.hierarchy.proofs.Prices.{some_has, has_some, Le, le_refl, le_trans, le_more_l, le_has}
use Rattle.hierarchy.proofs.Shape.{Peak, Local, local_arching}
use Rattle.levelling.specs.Detours.{detour_steps}

module _ (level : ℕ → ℕ) (top : ℕ) where
  abbrev pub Tops : List ℕ → Type 0
  Tops [] = Unit {0}
  Tops (x ∷ []) = Unit {0}
  Tops (x ∷ y ∷ l) = (level x ≡ top) × Tops (y ∷ l)

  abbrev AllTop : List ℕ → Type 0
  AllTop [] = Unit {0}
  AllTop (x ∷ l) = (level x ≡ top) × AllTop l

  tops_append : (l m : List ℕ) → AllTop l → Tops m → Tops (l ++ m)
  tops_append [] m h k = k
  tops_append (x ∷ []) [] h k = tt
  tops_append (x ∷ []) (y ∷ m) h k = (h.0, k)
  tops_append (x ∷ y ∷ l) m h k = (h.0, tops_append (y ∷ l) m h.1 k)

  module _ (bounded : (x : ℕ) → level x ≤ top) where
    -- no level lies between
    at_top : (x : ℕ) → top ≤ level x → level x ≡ top
    at_top x h = omega (arith, bounded x)

    local_of : (a : ℕ) (l : List ℕ) → Tops l → Local level top a l
    local_of a [] h = tt
    local_of a (x ∷ []) h = (tt, tt)
    local_of a (x ∷ y ∷ l) h = (peak a x y h.0, local_of x (y ∷ l) h.1)
      where
        peak : (x y z : ℕ) → level y ≡ top → Peak level top x y z
        peak x y z e = ⊎_elim (λ h. inl (omega arith)) (λ h. ⊎_elim (λ k. inr (inl (omega arith))) (λ k. inr (inr (at_top x h, e, at_top z k))) (cases_lt (level z) top)) (cases_lt (level x) top)

    module _ (i : ℕ) (just : top ≡ i + 1) where
      rises_top : (a : ℕ) (l : List ℕ) → i ≤ level a → Rises level a l → AllTop l
      rises_top a [] h r = tt
      rises_top a (x ∷ l) h r = let p = r.0 in (at_top x (omega arith), rises_top x l (omega arith) r.1)

      stays_top : (p : ℕ) (l : List ℕ) → level p ≡ top → Stays level p l → AllTop l
      stays_top p [] h s = tt
      stays_top p (x ∷ l) h s = (sym s.0 ∙ h, stays_top x l (sym s.0 ∙ h) s.1)

      falls_high : (s : ℕ) (l : List ℕ) → Falls level s l → i ≤ level (end s l) → (i ≤ level s) × Tops l
      falls_high s [] f h = (h, tt)
      falls_high s (x ∷ []) f h = let p = f.0 in (omega arith, tt)
      falls_high s (x ∷ y ∷ l) f h =
          let r = falls_high x (y ∷ l) f.1 h in
          let q = (falls_high y l f.1.1 h).0 in
          let p = f.0 in
          let u = f.1.0 in
          (omega (arith, r.0), (at_top x (omega arith), r.1))

      flat_tops : (p : ℕ) (flat down : List ℕ) → Stays level p flat → Falls level (end p flat) down → i ≤ level (end (end p flat) down) →
          (length flat ≤ 1) ⊎ (level p ≡ top) → Tops (flat ++ down)
      flat_tops p flat down s f h (inr t) = tops_append flat down (stays_top p flat t s) (falls_high (end p flat) down f h).1
      flat_tops p [] down s f h (inl t) = (falls_high p down f h).1
      flat_tops p (x ∷ []) [] s f h (inl t) = tt
      flat_tops p (x ∷ []) (y ∷ down) s f h (inl t) =
          let q = (falls_high y down f.1 h).0 in let u = f.0 in (at_top x (omega arith), (falls_high x (y ∷ down) f h).1)
      flat_tops p (x ∷ y ∷ flat) down s f h (inl t) = absurd (omega arith)

      -- an arching chain between two such places
      arch_tops : (a : ℕ) (l : List ℕ) → i ≤ level a → i ≤ level (end a l) → Arching level top a l → Tops l
      arch_tops a l ha hb arch =
          let p = end a arch.up in
          subst Tops (sym arch.parts)
          (tops_append arch.up (arch.flat ++ arch.down) (rises_top a arch.up ha arch.rises)
          (flat_tops p arch.flat arch.down arch.stays arch.falls (subst (λ z. i ≤ level z) last hb) arch.short))
        where
          last : end a l ≡ end (end (end a arch.up) arch.flat) arch.down
          last = ap (end a) arch.parts ∙ end-append a arch.up (arch.flat ++ arch.down) ∙ end-append (end a arch.up) arch.flat arch.down

module _ (K : Kind) (link : ℕ → ℕ → Price K) (level : ℕ → ℕ) (top v a : ℕ) where
  abbrev step : ℕ → ℕ → Price K
  step = detour_steps link level top v a

  abbrev goes_on : ℕ → Bool
  goes_on x = eqb x a || eqb (level x) top

  step_is : (x y : ℕ) → y ≢ v → goes_on x ≡ true → step x y ≡ link x y
  step_is x y n g = cond-true _ (link x y) None (and_from (not (eqb y v)) _ (not_from_false _ (ne_eqb y v n)) g)

  step_parts : (x y : ℕ) (c : K.C) → step x y ≡ Some c → (y ≢ v) × (goes_on x ≡ true) × (link x y ≡ Some c)
  step_parts x y c h = go (not (eqb y v)) refl (goes_on x) refl h
    where
      go : (s : Bool) → not (eqb y v) ≡ s → (t : Bool) → goes_on x ≡ t → cond (s && t) (link x y) None ≡ Some c → (y ≢ v) × (goes_on x ≡ true) × (link x y ≡ Some c)
      go true e true f h = (eqb-false y v (not-true _ e), f, h)
      go true e false f h = absurd (true≢false (sym (ap is_some h)))
      go false e t f h = absurd (true≢false (sym (ap is_some h)))

  chain_steps : (x : ℕ) (l : List ℕ) → goes_on x ≡ true → Tops level top l → Without v l → along K step x l ≡ along K link x l
  chain_steps x [] g t o = refl
  chain_steps x (y ∷ []) g t o = ap (λ p. add K p (Some K.zero)) (step_is x y o.0 g)
  chain_steps x (y ∷ z ∷ l) g t o =
      λ i. add K (step_is x y o.0 g i) (chain_steps y (z ∷ l) (or_right (eqb y a) _ (eq-eqb _ _ t.0)) t.1 o.1 i)

  -- a walk over detour steps that does not come back to a
  steps-chain : (x : ℕ) (l : List ℕ) (c : K.C) → Without a l → along K step x l ≡ Some c → Without v l × Tops level top l × (along K link x l ≡ Some c)
  steps-chain x [] c o h = (tt, tt, h)
  steps-chain x (y ∷ []) c o h =
      let p = add_some K (step x y) (Some K.zero) c h in
      let q = step_parts x y p.0 p.2 in
      ((q.0, tt), tt, ap (λ r. add K r (Some K.zero)) (q.2 ∙ sym p.2) ∙ h)
  steps-chain x (y ∷ z ∷ l) c o h =
      let p = add_some K (step x y) (along K step y (z ∷ l)) c h in
      let q = step_parts x y p.0 p.2 in
      let r = steps-chain y (z ∷ l) p.1 o.1 p.3 in
      let s = add_some K (step y z) (along K step z l) p.1 p.3 in
      let on = (step_parts y z s.0 s.2).1 in (
        (q.0, r.0),
        (⊎_elim (λ e. absurd (o.0 (eqb-true y a e))) (λ e. eqb-true _ _ e) (or_cases (eqb y a) _ on), r.1),
        (λ i. add K (q.2 i) (r.2 i)) ∙ ap Some p.4,
      )

  -- what is left of a walk after it was last at a costs no more
  abbrev Onward : ℕ → List ℕ → Type 0
  Onward x l = (m : List ℕ) × (end a m ≡ end x l) × Without a m × Le K (along K step a m) (along K step x l)

  onward : (x : ℕ) (l : List ℕ) → Without a l ⊎ Onward x l
  onward x [] = inl tt
  onward x (y ∷ l) = ⊎_elim (λ o. ⊎_elim (λ e. inr (here o e)) (λ n. inl (n, o)) (cases_eq y a)) (λ w. inr (w.0, w.1, w.2, le_trans w.3 (le_more_l (step x y) (along K step y l)))) (onward y l)
    where
      here : Without a l → y ≡ a → Onward x (y ∷ l)
      here o e = (l, ap (λ z. end z l) (sym e), o, subst (λ z. Le K (along K step z l) (along K step x (y ∷ l))) e (le_more_l (step x y) (along K step y l)))

  away : (l : List ℕ) → Onward a l
  away l = ⊎_elim (λ o. (l, refl, o, le_refl)) (λ w. w) (onward a l)

  module _ (bounded : (x : ℕ) → level x ≤ top) where
    pub walk_detour : (b : ℕ) (c : K.C) → Walk K step a b c → (l : List ℕ) × (end a l ≡ b) × Arching level top a l × Without v l × Le K (along K link a l) (Some c)
    walk_detour b c (l, e, f) =
        let w = away l in
        let p = has_some (along K step a w.0) (le_has w.3 (some_has _ c f)) in
        let q = steps-chain a w.0 p.0 w.2 p.1 in (
          w.0,
          w.1 ∙ e,
          local_arching level top a w.0 (local_of level top bounded a w.0 q.1),
          q.0,
          subst (λ r. Le K r (Some c)) (p.1 ∙ sym q.2) (subst (Le K (along K step a w.0)) f w.3),
        )

    pub detour_walk : (i : ℕ) → top ≡ i + 1 → (l : List ℕ) → i ≤ level a → i ≤ level (end a l) → Arching level top a l → Without v l → along K step a l ≡ along K link a l
    detour_walk i just l ha hb arch o = chain_steps a l (or_left (eqb a a) _ (eq-eqb a a refl)) (arch_tops level top bounded i just a l ha hb arch) o
