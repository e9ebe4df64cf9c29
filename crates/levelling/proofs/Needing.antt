-- Shown: the marks that are left when links and detours have been looked at are those of the neighbours that need a shortcut.
use Rattle.std.proofs.Common.{◌≡◌, ℕ, ◌+◌, ◌<◌, ◌≤◌, Bool, true, false, eqb, ltb, ◌≢◌, ◌⊎◌, List, [], ◌∷◌, get_or, is_some, Some, None, Option, sym, refl, ap, ◌∙◌, subst, inl, inr, ⊎_elim, arith}
use Rattle.std.proofs.lemmas.Bool.{true≢false, both_ways, cases_Bool, and_parts, and_from, or_cases, not-true, not_from_false, ltb-true, lt-ltb, eqb-true}
use Rattle.cost.specs.declared.Cost.{Ghosts as Costs}
use Rattle.hierarchy.specs.declared.SearchRecord.{SearchRecord}
use Rattle.hierarchy.specs.Kinds.{kind_of}
use Rattle.hierarchy.specs.Scales.{scale, scale_laws}
use Rattle.hierarchy.specs.Shortest.{zero_r}
use Rattle.hierarchy.specs.Walks.{Walk}
use Rattle.hierarchy.specs.Chains.{AtMost}
use Rattle.hierarchy.specs.Books.{Book, link_among}
use Rattle.hierarchy.proofs.Prices.{at_most-le, at_most as le_at_most, le_trans, some_has}
use Rattle.hierarchy.proofs.Shape.{local_arching}
use Rattle.levelling.specs.Near.{is_near, by_links}
use Rattle.levelling.specs.Needs.{Detoured, MarksNeed, is_open, Covers, Beyond}
use Rattle.levelling.specs.Priced.{at_most, reached_within}
use Rattle.levelling.specs.Reach.{Told}
use Rattle.levelling.specs.Detours.{detour_steps}
use Rattle.levelling.proofs.Dearest.{at_most_trans}
use Rattle.levelling.proofs.Linked.{link_apart}
use Rattle.levelling.proofs.Rounding.{walk_detour, detour_walk}

module _ {C : Type 0} (k : Costs C) where
  test_most : (p q : Option C) → at_most k p q ≡ true → AtMost (kind_of k) p q
  test_most None q h = absurd (true≢false (sym h))
  test_most (Some c) None h = absurd (true≢false (sym h))
  test_most (Some c) (Some d) h = (c, d, refl, refl, not-true _ h)

  most_test : (p q : Option C) → AtMost (kind_of k) p q → at_most k p q ≡ true
  most_test p q (c, d, e, f, h) = rw (e, f) (not_from_false _ h)

  module _ (n : ℕ) (book : Book (kind_of k)) (i v a : ℕ) (bounded : (x : ℕ) → book.level x ≤ i + 1) (a_near : is_near n book i v a ≡ true) where
    abbrev sum : ℕ → Option C
    sum = by_links n book v a

    near_high : (x : ℕ) → is_near n book i v x ≡ true → i ≤ book.level x
    near_high x h = ⊎_elim (λ e. omega (arith, eqb-true (book.level x) i e)) (λ e. omega (arith, eqb-true (book.level x) (i + 1) e))
        (or_cases (eqb (book.level x) i) _ (and_parts (is_some (link_among n book x v)) _ h).1)

    near_apart : (x : ℕ) → is_near n book i v x ≡ true → x ≢ v
    near_apart x h = link_apart n book x v (and_parts (is_some (link_among n book x v)) _ h).0

    -- one link is an arching chain
    direct : (b : ℕ) → is_near n book i v b ≡ true → at_most k (link_among n book a b) (sum b) ≡ true → Detoured n book i v a b
    direct b near h = (
      b ∷ [],
      refl,
      local_arching book.level (i + 1) a (b ∷ []) (tt, tt),
      (near_apart b near, tt),
      test_most _ (sum b) (ap (λ p. at_most k p (sum b)) (zero_r (scale (kind_of k)) (scale_laws (kind_of k)) (link_among n book a b)) ∙ h),
    )

    module _ (b : ℕ) (b_near : is_near n book i v b ≡ true) (bound : C) (known : SearchRecord C)
        (told : Told k (detour_steps (link_among n book) book.level (i + 1) v a) a bound b known) where
      reached_detour : reached_within k known (sum b) ≡ true → Detoured n book i v a b
      reached_detour h =
          let q = and_parts known.settled _ h in
          let w = walk_detour (kind_of k) (link_among n book) book.level (i + 1) v a bounded b known.cost (told.0 q.0).0 in
          let m = test_most (Some known.cost) (sum b) q.1 in
          (w.0, w.1, w.2, w.3, le_at_most (le_trans w.4 (at_most-le _ _ m)) (some_has (sum b) m.1 m.3))

      -- the two links cost at most the bound
      detour_reached : at_most k (sum b) (Some bound) ≡ true → Detoured n book i v a b → reached_within k known (sum b) ≡ true
      detour_reached most (l, e, arch, o, within) =
          let walk : Walk (kind_of k) (detour_steps (link_among n book) book.level (i + 1) v a) a b within.0 = (
            l,
            e,
            detour_walk (kind_of k) (link_among n book) book.level (i + 1) v a bounded i refl l (near_high a a_near)
                (subst (λ x. i ≤ book.level x) (sym e) (near_high b b_near)) arch o ∙ within.2,
          ) in
          let c = within.0 in
          let low : at_most k (Some c) (sum b) ≡ true = ap (λ p. at_most k p (sum b)) (sym within.2) ∙ most_test _ (sum b) within in
          let settled : known.settled ≡ true = ⊎_elim (λ s. s)
          (λ s. absurd (both_ways _ (not-true _ (at_most_trans k (Some c) (sum b) (Some bound) low most)) (told.1 s c walk))) (cases_Bool known.settled) in
          and_from known.settled _ settled
          (at_most_trans k (Some known.cost) (Some c) (sum b) (not_from_false _ ((told.0 settled).1 c walk)) low)

    no_sum : (b : ℕ) → sum b ≡ None → Detoured n book i v a b → ⊥
    no_sum b e (l, f, arch, o, (c, d, p, q, h)) = true≢false (sym (ap is_some (sym e ∙ q)))

    module _ (near candidates : List Bool) (near_is : (x : ℕ) → x < n → get_or near x false ≡ is_near n book i v x)
        (open_is : (x : ℕ) → x < n → get_or candidates x false ≡ is_open k n book v a near x) where
      abbrev Needed : ℕ → Type 0
      Needed b = (a < b) × (is_near n book i v b ≡ true) × (¬ (Detoured n book i v a b))

      open_parts : (b : ℕ) → b < n → get_or candidates b false ≡ true → (a < b) × (is_near n book i v b ≡ true)
      open_parts b h e =
          let p = and_parts (ltb a b) _ (sym (open_is b h) ∙ e) in
          (ltb-true a b p.0, sym (near_is b h) ∙ (and_parts (get_or near b false) _ p.1).0)

      -- a neighbour that needs a shortcut has no link that does
      needed_open : (b : ℕ) → b < n → Needed b → get_or candidates b false ≡ true
      needed_open b h (less, near-b, none) = open_is b h ∙ and_from (ltb a b) _ (lt-ltb a b less) (and_from (get_or near b false) _ (near_is b h ∙ near-b)
          (not_from_false _ (⊎_elim (λ e. absurd (none (direct b near-b e))) (λ e. e) (cases_Bool (at_most k (link_among n book a b) (sum b))))))

      pub open_need : Covers k n book v a candidates None → MarksNeed n book i v a candidates
      open_need covers b h = (λ e. let p = open_parts b h e in (p.0, p.1, λ d. no_sum b (none e) d), needed_open b h)
        where
          none_of : (p : Option C) → (is_some p ≡ true → at_most k p None ≡ true) → p ≡ None
          none_of None f = refl
          none_of (Some c) f = absurd (true≢false (sym (f refl)))

          none : get_or candidates b false ≡ true → sum b ≡ None
          none e = none_of (sum b) (covers b h e)

      module _ (bound : C) (left : List Bool) (covers : Covers k n book v a candidates (Some bound)) (beyond : Beyond k n book v a i bound candidates left) where
        left_parts : (b : ℕ) (h : b < n) → get_or left b false ≡ true → (get_or candidates b false ≡ true) × (reached_within k (beyond b h).0 (sum b) ≡ false)
        left_parts b h e = let p = and_parts (get_or candidates b false) _ (sym (beyond b h).2 ∙ e) in (p.0, not-true _ p.1)

        priced : (b : ℕ) → (p : Option C) → sum b ≡ p → (sum b ≡ None) ⊎ (is_some (sum b) ≡ true)
        priced b None e = inl e
        priced b (Some c) e = inr (ap is_some e)

        pub left_need : MarksNeed n book i v a left
        left_need b h = (there, back)
          where
            there : get_or left b false ≡ true → Needed b
            there e =
                let p = left_parts b h e in
                let q = open_parts b h p.0 in (
                  q.0,
                  q.1,
                  λ d. ⊎_elim (λ s. no_sum b s d)
                      (λ s. both_ways _ p.1 (detour_reached b q.1 bound (beyond b h).0 (beyond b h).1 (covers b h p.0 s) d)) (priced b (sum b) refl),
                )

            back : Needed b → get_or left b false ≡ true
            back need = (beyond b h).2 ∙ and_from (get_or candidates b false) _ (needed_open b h need)
                (not_from_false _ (⊎_elim (λ e. absurd (need.2 (reached_detour b need.1 bound (beyond b h).0 (beyond b h).1 e))) (λ e. e) (cases_Bool (reached_within k (beyond b h).0 (sum b)))))
