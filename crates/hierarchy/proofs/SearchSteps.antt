-- Shown: what holds of a search at its start, and still holds when the nearest place is settled.
use Rattle.std.proofs.Common.{◌≡◌, ℕ, suc, ◌<◌, Bool, true, false, cond, not, eqb, is_some, Some, None, Option, sym, refl, ap, ◌∙◌, subst, ⊎_elim, arith}
use Rattle.std.proofs.lemmas.Bool.{true≢false, both_ways, not-false, eqb-true, eq-eqb, ne_eqb, and_parts, and_cases, and_left, or_cases, or_parts, or_left, or_right, not_from_true, cond-true, cond-false, cond_both}
use Rattle.hierarchy.specs.Kinds.{Kind, Price, add}
use Rattle.hierarchy.specs.Deciders.{add_some}
use Rattle.hierarchy.specs.Searches.{Front, begin, offer, takes, settle, tally}
use Rattle.hierarchy.proofs.SearchCounts.{count-one_more}
use Rattle.hierarchy.proofs.Prices.{Le, le_refl, le_trans, le_anti, le_more_r, le-zero, le_none, not-cheaper, cheaper-le}
use Rattle.hierarchy.proofs.SearchNearest.{Waits, waits_since, waits_new, Nearest, next_cost}

some_of : {C : Type 0} (p : Option C) → is_some p ≡ true → (c : C) × (p ≡ Some c)
some_of None h = absurd (true≢false (sym h))
some_of (Some c) h = (c, refl)

module _ (K : Kind) where
  -- steps lead only to places below n
  abbrev pub Inside : (ℕ → ℕ → Price K) → ℕ → Type 0
  Inside step n = (v x : ℕ) (c : K.C) → step v x ≡ Some c → x < n

  only_start : (a x : ℕ) (c : K.C) → (begin K a).reached x ≡ Some c → x ≡ a
  only_start a x c h = go (eqb x a) refl h
    where
      go : (t : Bool) → eqb x a ≡ t → cond t (Some K.zero) None ≡ Some c → x ≡ a
      go true e h = eqb-true x a e
      go false e h = absurd (true≢false (sym (ap is_some h)))

pub one_more : {K : Kind} (step : ℕ → ℕ → Price K) (front : Front K) (n v : ℕ) → v < n → Waits front v → tally (settle step front v) n ≡ suc (tally front n)
one_more step front n v h wait = count-one_more front.settled v (waits_new front v wait) n h

module _ {K : Kind} (step : ℕ → ℕ → Price K) (n a : ℕ) where
  pub record Sound (front : Front K) : Type 0 where
    -- how many places were settled before it
    pub order : ℕ → ℕ
    pub start : front.reached a ≡ Some K.zero
    pub within : (x : ℕ) (c : K.C) → front.reached x ≡ Some c → x < n
    pub reaches : (x : ℕ) → front.settled x ≡ true → (c : K.C) × (front.reached x ≡ Some c)
    pub relaxed : (x y : ℕ) → front.settled x ≡ true → Le K (front.reached y) (offer step front x y)
    pub ahead : (x y : ℕ) → front.settled x ≡ true → front.settled y ≡ false → Le K (front.reached x) (front.reached y)
    pub back : (x : ℕ) (c : K.C) → front.reached x ≡ Some c → (x ≡ a → ⊥) →
        (front.settled (front.from x) ≡ true) × (offer step front (front.from x) x ≡ front.reached x)
    pub early : (x : ℕ) → front.settled x ≡ true → order x < tally front n
    pub later : (x : ℕ) → front.settled x ≡ true → (x ≡ a → ⊥) → order (front.from x) < order x

  pub begin_sound : a < n → Sound (begin K a)
  begin_sound on = record {
    order = λ x. 0;
    start = cond-true (eqb a a) _ _ (eq-eqb a a refl);
    within = λ x c h. subst (λ z. z < n) (sym (only_start K a x c h)) on;
    reaches = λ x h. absurd (true≢false (sym h));
    relaxed = λ x y h. absurd (true≢false (sym h));
    ahead = λ x y h k. absurd (true≢false (sym h));
    back = λ x c h n. absurd (n (only_start K a x c h));
    early = λ x h. absurd (true≢false (sym h));
    later = λ x h n. absurd (true≢false (sym h));
  }

  pub next_first : (front : Front K) → Sound front → (o : Option ℕ) → Nearest front n o → (y : ℕ) → front.settled y ≡ false →
      Le K (next_cost front o) (front.reached y)
  next_first front s o near y h = go (front.reached y) refl o near
    where
      go : (p : Price K) → front.reached y ≡ p → (o : Option ℕ) → Nearest front n o → Le K (next_cost front o) p
      go None e o near = le_none refl
      go (Some c) e None none = absurd (both_ways _ (none y (s.within y c e)) (waits_since front y c e h))
      go (Some c) e (Some v) (on, wait, first) = subst (Le K (front.reached v)) e (first y (s.within y c e) (waits_since front y c e h))

  module _ (inside : Inside K step n) (front : Front K) (s : Sound front) (v : ℕ) (near : Nearest front n (Some v)) where
    abbrev next : Front K
    next = settle step front v

    abbrev taken : ℕ → Bool
    taken = takes step front v

    abbrev offered : ℕ → Price K
    offered = offer step front v

    v_cost : (c : K.C) × (front.reached v ≡ Some c)
    v_cost = some_of (front.reached v) (and_parts _ _ near.1).0

    v_new : front.settled v ≡ false
    v_new = waits_new front v near.1

    -- v is settled now, and those that were
    settled_is : (P : ℕ → Type 0) → P v → ((x : ℕ) → front.settled x ≡ true → P x) → (x : ℕ) → next.settled x ≡ true → P x
    settled_is P here rest x h = ⊎_elim (λ e. subst P (sym (eqb-true x v e)) here) (rest x) (or_cases (eqb x v) (front.settled x) h)

    v_settled : next.settled v ≡ true
    v_settled = or_left (eqb v v) _ (eq-eqb v v refl)

    still : (x : ℕ) → front.settled x ≡ true → next.settled x ≡ true
    still x h = or_right (eqb x v) _ h

    not_taken : (x : ℕ) → next.settled x ≡ true → taken x ≡ false
    not_taken x h = and_left (not (next.settled x)) _ (not_from_true _ h)

    kept : (x : ℕ) → next.settled x ≡ true → next.reached x ≡ front.reached x
    kept x h = cond-false (taken x) _ _ (not_taken x h)

    -- what is reached, and from where, is what was or what v offers
    reached_is : (x : ℕ) (P : Price K → ℕ → Type 0) → (taken x ≡ true → P (offered x) v) → P (front.reached x) (front.from x) → P (next.reached x) (next.from x)
    reached_is x P new old = go (taken x) refl
      where
        go : (t : Bool) → taken x ≡ t → P (cond t (offered x) (front.reached x)) (cond t v (front.from x))
        go true e = new e
        go false e = old

    no_dearer : (x : ℕ) → Le K (next.reached x) (front.reached x)
    no_dearer x = reached_is x (λ p f. Le K p (front.reached x)) (λ e. cheaper-le _ _ (and_parts (not (next.settled x)) _ e).1) le_refl

    low : (x : ℕ) → next.settled x ≡ true → Le K (front.reached x) (front.reached v)
    low = settled_is (λ x. Le K (front.reached x) (front.reached v)) le_refl (λ x h. s.ahead x v h v_new)

    at_most-offered : (x : ℕ) → Le K (next.reached x) (offered x)
    at_most-offered x = cond_both (taken x) (offered x) (front.reached x) (λ p. Le K p (offered x)) (λ e. le_refl) left
      where
        left : taken x ≡ false → Le K (front.reached x) (offered x)
        left e = ⊎_elim (λ f. le_trans (low x (not-false _ f)) (le_more_r (front.reached v) (step v x))) not-cheaper (and_cases (not (next.settled x)) _ e)

    within_next : (x : ℕ) (c : K.C) → next.reached x ≡ Some c → x < n
    within_next x c =
        reached_is x (λ p f. p ≡ Some c → x < n) (λ e h. let p = add_some K (front.reached v) (step v x) c h in inside v x p.1 p.3) (s.within x c)

    reaches_next : (x : ℕ) → next.settled x ≡ true → (c : K.C) × (next.reached x ≡ Some c)
    reaches_next x h = let r = settled_is (λ x. (c : K.C) × (front.reached x ≡ Some c)) v_cost s.reaches x h in (r.0, kept x h ∙ r.1)

    relaxed_next : (x y : ℕ) → next.settled x ≡ true → Le K (next.reached y) (offer step next x y)
    relaxed_next x y h =
        subst (λ p. Le K (next.reached y) (add K p (step x y))) (sym (kept x h))
        (settled_is (λ x. Le K (next.reached y) (offer step front x y)) (at_most-offered y) (λ x h. le_trans (no_dearer y) (s.relaxed x y h)) x h)

    ahead_next : (x y : ℕ) → next.settled x ≡ true → next.settled y ≡ false → Le K (next.reached x) (next.reached y)
    ahead_next x y h k =
        subst (λ p. Le K p (next.reached y)) (sym (kept x h))
        (le_trans (low x h)
        (reached_is y (λ p f. Le K (front.reached v) p) (λ e. le_more_r (front.reached v) (step v y)) (next_first front s (Some v) near y (or_parts (eqb y v) _ k).1)))

    back_next : (x : ℕ) (c : K.C) → next.reached x ≡ Some c → (x ≡ a → ⊥) →
        (next.settled (next.from x) ≡ true) × (offer step next (next.from x) x ≡ next.reached x)
    back_next x c h n =
        reached_is x (λ p f. p ≡ Some c → (next.settled f ≡ true) × (offer step next f x ≡ p))
        (λ e h. (v_settled, from-kept v v_settled))
        (λ h. let q = s.back x c h n in (still _ q.0, from-kept (front.from x) (still _ q.0) ∙ q.1)) h
      where
        from-kept : (f : ℕ) → next.settled f ≡ true → offer step next f x ≡ offer step front f x
        from-kept f h = ap (λ p. add K p (step f x)) (kept f h)

    grown : tally next n ≡ suc (tally front n)
    grown = one_more step front n v near.0 near.1

    abbrev order_next : ℕ → ℕ
    order_next x = cond (eqb x v) (tally front n) (s.order x)

    v_last : order_next v ≡ tally front n
    v_last = cond-true (eqb v v) _ _ (eq-eqb v v refl)

    order_kept : (x : ℕ) → front.settled x ≡ true → order_next x ≡ s.order x
    order_kept x h = cond-false (eqb x v) _ _ (ne_eqb x v (λ e. both_ways _ v_new (subst (λ z. front.settled z ≡ true) e h)))

    early_next : (x : ℕ) → next.settled x ≡ true → order_next x < tally next n
    early_next = settled_is (λ x. order_next x < tally next n) (rw v_last (omega (arith, grown))) (λ x h. rw (order_kept x h) (omega (arith, s.early x h, grown)))

    later_next : (x : ℕ) → next.settled x ≡ true → (x ≡ a → ⊥) → order_next (next.from x) < order_next x
    later_next x h =
        subst (λ f. (x ≡ a → ⊥) → order_next f < order_next x) (sym (cond-false (taken x) v (front.from x) (not_taken x h)))
        (settled_is (λ x. (x ≡ a → ⊥) → order_next (front.from x) < order_next x)
        (λ n. let q = s.back v v_cost.0 v_cost.1 n in rw (order_kept _ q.0, v_last) (s.early _ q.0))
        (λ x h n. let r = s.reaches x h in let q = s.back x r.0 r.1 n in rw (order_kept _ q.0, order_kept x h) (s.later x h n)) x h)

    pub settle_sound : Sound next
    settle_sound = record {
      order = order_next;
      start = le_anti (subst (Le K (next.reached a)) s.start (no_dearer a)) le-zero;
      within = within_next;
      reaches = reaches_next;
      relaxed = relaxed_next;
      ahead = ahead_next;
      back = back_next;
      early = early_next;
      later = later_next;
    }
