-- Shown: a whole search is sound, the chain in its table is the chain of its front, and its places are below 256.
use Rattle.std.proofs.Common.{◌≡◌, ℕ, zero, suc, ◌<◌, ◌≤◌, true, eqb, List, [], ◌∷◌, ◌++◌, is_some, Option, sym, refl, ap, ◌∙◌, subst, ⊎_elim, arith}
use Rattle.std.proofs.lemmas.Bool.{true≢false, eq-eqb, ne_eqb, cond-true, cond-false, cases_eq, cases_lt}
use Rattle.cost.specs.declared.Cost.{Ghosts as Costs}
use Rattle.hierarchy.specs.declared.SearchRecord.{SearchRecord}
use Rattle.hierarchy.specs.Kinds.{kind_of}
use Rattle.hierarchy.specs.Searches.{Front, begin, table_after}
use Rattle.hierarchy.specs.Layouts.{chain_to}
use Rattle.hierarchy.proofs.SearchSteps.{Inside as LeadsInside, Sound, begin_sound}
use Rattle.hierarchy.proofs.SearchWalks.{came_from}
use Rattle.hierarchy.proofs.SearchEnds.{Ended, search_ends}
use Rattle.frontier.specs.Fronts.{blank, Inside}
use Rattle.routing.specs.Found.{whole_search, predecessor_in, chain_in}
use Rattle.routing.specs.Placed.{Near}
use Rattle.routing.proofs.Recorded.{read_predecessor}

near-append : (l : List ℕ) (x : ℕ) → Near l → x < 256 → Near (l ++ (x ∷ []))
near-append [] x near h zero w = h
near-append [] x near h (suc j) w = absurd (omega arith)
near-append (y ∷ l) x near h zero w = near 0 (omega arith)
near-append (y ∷ l) x near h (suc j) w = near-append l x (λ i v. near (suc i) (omega arith)) h j (omega arith)

module _ {C : Type 0} (k : Costs C) (step : ℕ → ℕ → Option C) (n a : ℕ) where
  leads_inside : Inside n step → LeadsInside (kind_of k) step n
  leads_inside inside v x c e = ⊎_elim (λ h. h) (λ h. absurd (true≢false (ap is_some (sym e ∙ inside v x h)))) (cases_lt x n)

  pub whole_ends : (b : ℕ) → a < n → b < n → Inside n step → Ended {K = kind_of k} step n a b (whole_search k step n a b)
  whole_ends b ha hb inside = search_ends step n a b (leads_inside inside) hb n (begin (kind_of k) a) (begin_sound step n a ha) (omega arith)

  chain-near : (front : Front (kind_of k)) → Sound {K = kind_of k} step n a front → n ≤ 256 → (j x : ℕ) → front.settled x ≡ true → Near (chain_to front a j x)
  chain-near front s few j x h = go j x h
    where
      below : (x : ℕ) → front.settled x ≡ true → x < 256
      below x h = let c = s.reaches x h in omega (arith, s.within x c.0 c.1)

      alone : (x : ℕ) → front.settled x ≡ true → Near (x ∷ [])
      alone x h = near-append [] x (λ i v. absurd (omega arith)) (below x h)

      go : (j x : ℕ) → front.settled x ≡ true → Near (chain_to front a j x)
      go zero x h = alone x h
      go (suc j) x h = ⊎_elim
          (λ e. subst Near (sym (cond-true (eqb x a) (x ∷ []) _ (eq-eqb x a e))) (alone x h))
          (λ ne. subst Near (sym (cond-false (eqb x a) (x ∷ []) _ (ne_eqb x a ne)))
          (near-append (chain_to front a j (front.from x)) x (go j (front.from x) (came_from step n a front s x h ne).0) (below x h))) (cases_eq x a)

  module _ (front : Front (kind_of k)) (s : Sound {K = kind_of k} step n a front) (before table : List (SearchRecord C)) (after : table ≡ table_after front n before) where
    back_in : (x : ℕ) → front.settled x ≡ true → predecessor_in k table x ≡ front.from x
    back_in x h = let c = s.reaches x h in read_predecessor k front n before table after x (blank k) (s.within x c.0 c.1) h

    chains_same : (j x : ℕ) → front.settled x ≡ true → chain_in k table a j x ≡ chain_to front a j x
    chains_same zero x h = refl
    chains_same (suc j) x h = ⊎_elim at (further (chains_same j (front.from x))) (cases_eq x a)
      where
        at : x ≡ a → chain_in k table a (suc j) x ≡ chain_to front a (suc j) x
        at e = let t = eq-eqb x a e in cond-true (eqb x a) (x ∷ []) _ t ∙ sym (cond-true (eqb x a) (x ∷ []) _ t)

        further : (front.settled (front.from x) ≡ true → chain_in k table a j (front.from x) ≡ chain_to front a j (front.from x)) → (x ≡ a → ⊥) →
            chain_in k table a (suc j) x ≡ chain_to front a (suc j) x
        further rest ne =
            let t = ne_eqb x a ne in
            cond-false (eqb x a) (x ∷ []) _ t
            ∙ ap (λ l. l ++ (x ∷ [])) (ap (chain_in k table a j) (back_in x h) ∙ rest (came_from step n a front s x h ne).0)
            ∙ sym (cond-false (eqb x a) (x ∷ []) _ t)

  pub whole_chain : (b : ℕ) → a < n → b < n → Inside n step → (before table : List (SearchRecord C)) → table ≡ table_after (whole_search k step n a b) n before →
      (whole_search k step n a b).settled b ≡ true → chain_in k table a n b ≡ chain_to (whole_search k step n a b) a n b
  whole_chain b ha hb inside before table after = chains_same _ (whole_ends b ha hb inside).sound before table after n b

  pub whole_near : (b : ℕ) → a < n → b < n → n ≤ 256 → Inside n step → (whole_search k step n a b).settled b ≡ true → Near (chain_to (whole_search k step n a b) a n b)
  whole_near b ha hb few inside h = chain-near _ (whole_ends b ha hb inside).sound few n b h
