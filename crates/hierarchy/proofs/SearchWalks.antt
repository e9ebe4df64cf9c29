-- Shown: a sound search settles places at the cost of a least walk, no walk to another costs less than the nearest that waits, and
-- predecessors lead back to the start.
use Rattle.std.proofs.Common.{◌≡◌, ℕ, zero, suc, ◌≤◌, true, false, eqb, ◌⊎◌, List, [], ◌∷◌, ◌++◌, Some, None, Option, sym, ap, ◌∙◌, subst, inl, inr, ⊎_elim, arith, eqb→eq}
use lib.Dec.{eqb_refl}
use Rattle.std.proofs.lemmas.Bool.{cases_Bool, cases_eq, eq-eqb, ne_eqb, cond-true, cond-false}
use Rattle.hierarchy.specs.Kinds.{Kind, Price, add}
use Rattle.hierarchy.specs.Walks.{end, along, Walk, Least}
use Rattle.hierarchy.specs.Scales.{scale, scale_laws}
use Rattle.hierarchy.specs.Shortest.{end-append, total-append, zero_r}
use Rattle.hierarchy.specs.Deciders.{add_some}
use Rattle.hierarchy.specs.Searches.{Front, nearest}
use Rattle.hierarchy.specs.Layouts.{chain_to}
use Rattle.hierarchy.proofs.SearchCounts.{count_bound}
use Rattle.hierarchy.proofs.Prices.{Le, le_refl, le_trans, le-add, le_more_r, le_costs}
use Rattle.hierarchy.proofs.SearchNearest.{nearest_at, next_cost}
use Rattle.hierarchy.proofs.SearchSteps.{Sound, next_first}

module _ {K : Kind} (step : ℕ → ℕ → Price K) (n a : ℕ) (front : Front K) (s : Sound step n a front) where
  -- p is at most what t and the places that are not settled are reached at
  module _ (p : Price K) (t : ℕ) (beyond : (y : ℕ) → (y ≡ t) ⊎ (front.settled y ≡ false) → Le K p (front.reached y)) where
    onward : (x : ℕ) (l : List ℕ) → end x l ≡ t → Le K p (add K (front.reached x) (along K step x l))
    onward x [] e = le_trans (beyond x (inl e)) (le_more_r (front.reached x) (Some K.zero))
    onward x (y ∷ l) e = ⊎_elim
        (λ h. subst (Le K p) ((scale_laws K).assoc (front.reached x) (step x y) (along K step y l))
        (le_trans (onward y l e) (le-add (s.relaxed x y h) le_refl)))
        (λ h. le_trans (beyond x (inr h)) (le_more_r (front.reached x) _)) (cases_Bool (front.settled x))

    walk_beyond : (d : K.C) → Walk K step a t d → Le K p (Some d)
    walk_beyond d (l, e, f) = subst (Le K p) ((λ i. add K (s.start i) (f i)) ∙ (scale_laws K).zero_l (Some d)) (onward a l e)

  next_beyond : (o : Option ℕ) → nearest front n ≡ o → (x : ℕ) → front.settled x ≡ false →
      (d : K.C) → Walk K step a x d → Le K (next_cost front o) (Some d)
  next_beyond o e x h =
      let least = next_first step n a front s o (nearest_at front n o e) in
      walk_beyond _ x (λ y w. least y (⊎_elim (λ f. subst (λ z. front.settled z ≡ false) (sym f) h) (λ k. k) w))

  pub bounded : (v : ℕ) (e : K.C) → nearest front n ≡ Some v → front.reached v ≡ Some e → (x : ℕ) → front.settled x ≡ false →
      (d : K.C) → Walk K step a x d → K.less d e ≡ false
  bounded v e near r x h d walk = le_costs e d r (next_beyond (Some v) near x h d walk)

  pub unsettled_unreached : nearest front n ≡ None → (x : ℕ) → front.settled x ≡ false → (d : K.C) → Walk K step a x d → ⊥
  unsettled_unreached none x h d walk = (next_beyond None none x h d walk).holds

  pub came_from : (x : ℕ) → front.settled x ≡ true → (x ≡ a → ⊥) → (front.settled (front.from x) ≡ true) × (c : K.C) × (p : K.C) × (q : K.C) ×
      (front.reached x ≡ Some c) × (front.reached (front.from x) ≡ Some p) × (step (front.from x) x ≡ Some q) × (c ≡ K.plus p q)
  came_from x h n =
      let r = s.reaches x h in
      let b = s.back x r.0 r.1 n in
      let p = add_some K (front.reached (front.from x)) (step (front.from x) x) r.0 (b.1 ∙ r.1) in
      (b.0, r.0, p.0, p.1, r.1, p.2, p.3, sym {a = K.plus p.0 p.1} p.4)

  abbrev pub Leads : ℕ → List ℕ → Type 0
  Leads x places = (l : List ℕ) × (places ≡ a ∷ l) × (end a l ≡ x) × (along K step a l ≡ front.reached x)

  start_leads : (x : ℕ) → x ≡ a → Leads x (x ∷ [])
  start_leads x e = ([], ap (λ z. z ∷ []) e, sym e, sym s.start ∙ ap front.reached (sym e))

  leads_within : (k x : ℕ) → front.settled x ≡ true → s.order x ≤ k → Leads x (chain_to front a k x)
  leads_within zero x h j = ⊎_elim (start_leads x) (λ n. absurd (omega (arith, s.later x h n))) (cases_eq x a)
  leads_within (suc k) x h j = ⊎_elim
      (λ e. subst (Leads x) (sym (cond-true (eqb x a) (x ∷ []) _ (eq-eqb x a e))) (start_leads x e))
      (λ n. subst (Leads x) (sym (cond-false (eqb x a) (x ∷ []) _ (ne_eqb x a n))) (go (leads_within k (front.from x)) n)) (cases_eq x a)
    where
      go : (front.settled (front.from x) ≡ true → s.order (front.from x) ≤ k → Leads (front.from x) (chain_to front a k (front.from x))) → (x ≡ a → ⊥) →
          Leads x (chain_to front a k (front.from x) ++ (x ∷ []))
      go rest n =
          let c = s.reaches x h in
          let q = s.back x c.0 c.1 n in
          let r = rest q.0 (omega (arith, s.later x h n)) in (
            r.0 ++ (x ∷ []),
            ap (λ l. l ++ (x ∷ [])) r.1,
            end-append a r.0 (x ∷ []),
            total-append (scale K) (scale_laws K) eqb eqb_refl eqb→eq step a r.0 (x ∷ [])
                ∙ (λ i. add K (r.3 i) (zero_r (scale K) (scale_laws K) (step (r.2 i) x) i)) ∙ q.1,
          )

  pub leads_back : (x : ℕ) → front.settled x ≡ true → Leads x (chain_to front a n x)
  leads_back x h = leads_within n x h (omega (arith, s.early x h, count_bound front.settled n))

  pub settled-least : (x : ℕ) (c : K.C) → front.settled x ≡ true → front.reached x ≡ Some c → Least K step a x c
  settled-least x c h r = ((p.0, p.2, p.3 ∙ r), λ d walk. le_costs c d r (walk_beyond (front.reached x) x beyond d walk))
    where
      p : Leads x (chain_to front a n x)
      p = leads_back x h

      beyond : (y : ℕ) → (y ≡ x) ⊎ (front.settled y ≡ false) → Le K (front.reached x) (front.reached y)
      beyond y w = ⊎_elim (λ e. subst (λ z. Le K (front.reached x) (front.reached z)) (sym e) le_refl) (s.ahead x y h) w
