-- Shown: seconds keep the laws of costs, since their numbers are ranks.
use Rattle.std.specs.Prelude.{◌≡◌, ℕ, ◌<◌, ◌≤◌, true, ◌⊎◌, refl}
use Rattle.std.proofs.Common.{inl, inr, ⊎_elim, arith}
use mathlib.Core.HLevel.{is_prop→PathP}
use Rattle.std.proofs.Math.Bridge.{le_prop}
use Rattle.std.proofs.lemmas.Bool.{cases_lt}
use Rattle.cost.specs.declared.seconds.Seconds.{Seconds}
use Rattle.std.proofs.lemmas.Bool.Decides.{nat_tests}
use Rattle.cost.specs.Laws.{CostLaws}
use Rattle.cost.specs.Ranks.{Ranked, laws_by_rank}
use Rattle.cost.specs.Seconds.{zero_s, over_s, plus_s, less_s, way_s, word_s, unword_s}

pub same_seconds : (x y : Seconds) → x.number ≡ y.number → x ≡ y
same_seconds x y e = λ i. record { number = e i; capped = is_prop→PathP (λ j. e j ≤ 16777216) (λ j. le_prop) x.capped y.capped i }

way_number : (x : Seconds) → way_s x ≡ true → (0 < x.number) × (x.number ≤ 65535)
way_number x h = (grind (arith, nat_tests), grind (arith, nat_tests))

ranked : Ranked zero_s over_s plus_s less_s way_s (λ x. x.number) 16777216 65535
ranked = record {
  one = same_seconds;
  at_most = λ a. a.capped;
  zero_rank = refl;
  over-rank = refl;
  plus-rank = λ a b. refl;
  less-rank = λ a b. refl;
  way-rank = way_number;
  enough = omega arith;
}

back : (x : Seconds) → unword_s (word_s x) ≡ x
back x =
    same_seconds _ _ (let c = x.capped in grind (arith, nat_tests))

read : (n : ℕ) → n < 16777216 → word_s (unword_s n) ≡ n
read n h = grind (arith, nat_tests)

other : (n : ℕ) → (unword_s n ≡ over_s) ⊎ (word_s (unword_s n) ≡ n)
other n =
    ⊎_elim (λ h. inr (read n h)) (λ h. inl (same_seconds _ _ (omega arith)))
    (cases_lt n 16777216)

pub laws_s : CostLaws zero_s over_s plus_s less_s way_s word_s unword_s
laws_s = laws_by_rank ranked word_s unword_s back other
