-- Shown: what is left of a search after some turns leads to the same end.
--   Left  what the rest of the search leads to, after no more turns than places are settled
use Rattle.std.proofs.Common.{◌≡◌, ℕ, zero, suc, ◌-◌, ◌≤◌, true, false, Some, None, Option, refl, sym, ap, ◌∙◌, arith}
use Rattle.std.proofs.lemmas.Bool.{cond-true, cond-false}
use Rattle.hierarchy.specs.Kinds.{Kind, Price}
use Rattle.hierarchy.specs.Searches.{Front, nearest, settle, search_on, tally}
use Rattle.frontier.proofs.Turning.{tally_more, tally_below}

module _ {K : Kind} (step : ℕ → ℕ → Price K) (n b : ℕ) where
  module _ (front : Front K) where
    abbrev next : ℕ → Option ℕ → Front K
    next j o = elim o [ None ↦ front | Some v ↦ search_on step n b j (settle step front v) ]

    done : front.settled b ≡ true → (j : ℕ) → search_on step n b j front ≡ front
    done e zero = refl
    done e (suc j) = cond-true (front.settled b) front (next j (nearest front n)) e

    turned : front.settled b ≡ false → (o : Option ℕ) → o ≡ nearest front n → (j : ℕ) → search_on step n b (suc j) front ≡ next j o
    turned e o near j = cond-false (front.settled b) front (next j (nearest front n)) e ∙ ap (next j) (sym near)

    stuck : front.settled b ≡ false → None ≡ nearest front n → (j : ℕ) → search_on step n b j front ≡ front
    stuck e near zero = refl
    stuck e near (suc j) = turned e None near j

  pub record Left (front whole : Front K) : Type 0 where
    pub turns : ℕ
    pub made : turns ≤ tally front n
    pub leads : search_on step n b (n - turns) front ≡ whole

  pub begun : (front : Front K) → Left front (search_on step n b n front)
  begun front = record { turns = 0; made = omega arith; leads = ap (λ j. search_on step n b j front) (omega arith) }

  module _ (front whole : Front K) (left : Left front whole) where
    pub goal_settled : front.settled b ≡ true → front ≡ whole
    goal_settled e = sym (done front e (n - left.turns)) ∙ left.leads

    pub none_waits : front.settled b ≡ false → None ≡ nearest front n → front ≡ whole
    none_waits e near = sym (stuck front e near (n - left.turns)) ∙ left.leads

    pub turn_more : front.settled b ≡ false → (v : ℕ) → Some v ≡ nearest front n → (after : Front K) → after ≡ settle step front v → Left after whole
    turn_more e v near after s =
        let below = tally_below step n v front after near s in
        let more = tally_more step n v front after near s in
        let one : n - left.turns ≡ suc (n - suc left.turns) = omega (arith, left.made, below) in
        record {
          turns = suc left.turns;
          made = omega (arith, left.made, more);
          leads = ap (search_on step n b (n - suc left.turns)) s ∙ sym (turned front e (Some v) near (n - suc left.turns)) ∙ ap (λ j. search_on step n b j front) (sym one) ∙ left.leads;
        }
