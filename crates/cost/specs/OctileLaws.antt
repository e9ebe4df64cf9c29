-- Shown: octile costs keep the laws of costs. Their ranks are their weights, which are ordered and added as the costs are.
use Rattle.std.specs.Prelude.{◌≡◌, ℕ, ◌+◌, ◌-◌, ◌*◌, ◌/◌, ◌%◌, ◌<◌, ◌≤◌, min, true, false, not, ◌⊎◌, ◌==◌, ◌&&◌, nat_lt, refl}
use Rattle.std.proofs.Common.{sym, ◌∙◌, inl, inr, ⊎_elim, arith}
use mathlib.Core.HLevel.{is_prop→PathP}
use Rattle.std.proofs.Math.Bool.{Bool-set}
use Rattle.std.proofs.lemmas.Bool.{and_parts, or_cases, cases_Bool, cases_lt, ltb-true, ltb-false, lt-ltb, le-ltb, not-true, not-false, cond-true, cond-false}
use Rattle.std.proofs.lemmas.Bool.Decides.{nat_tests}
use Rattle.std.specs.Ordering.{nat_cmp, is_lt, is_le, on, eq_by_cmp}
use Rattle.cost.specs.Laws.{CostLaws}
use Rattle.cost.specs.Ranks.{Ranked, laws_by_rank}
use Rattle.cost.specs.Worth.{below, within, told}
use Rattle.cost.specs.Octiles.{octile, zero_o, over_o, plus_o, less_o, way_o, word_o, unword_o}
use Rattle.cost.specs.Pell.{weight, weight-one, squares, same_ltb, below-weight}
use Rattle.cost.specs.declared.octile.Octile.{Octile}

pub same_octile : (x y : Octile) → x.straight ≡ y.straight → x.diagonal ≡ y.diagonal → x ≡ y
same_octile x y e f = λ i. record {
  straight = e i;
  diagonal = f i;
  capped = is_prop→PathP (λ j. told (e j) (f j) ≡ true) (λ j. Bool-set _ _) x.capped y.capped i;
}

-- more diagonal steps than the limit are worth more than it
pub many_below : (l m n : ℕ) → l < n → below l 0 m n ≡ true
many_below l m n h = let s = squares (l - m) (n - 0) in grind (arith, nat_tests)

few-within : (l m n : ℕ) → within l m n ≡ true → n ≤ l
few-within l m n h = let b = many_below l m n in grind (arith, nat_tests)

-- what steps worth at most the limit weigh, and what others do
pub light_within : (l m n : ℕ) → l < 93222358 → within l m n ≡ true → weight m n ≤ weight l 0
light_within l m n s h =
    let f = few-within l m n h in ltb-false _ _ (sym (below-weight l 0 m n (omega arith) (omega arith)) ∙ not-true _ h)

pub heavy_beyond : (l m n : ℕ) → n < 93222358 → within l m n ≡ false → weight l 0 < weight m n
heavy_beyond l m n s h = ltb-true _ _ (sym (below-weight l 0 m n (omega arith) s) ∙ not-false _ h)

abbrev top : ℕ
top = 16777215 * 93222358 + 1

-- a cost is worth at most the cap, or is Over
known : (x : Octile) → ((x.diagonal ≤ 16777215) × (weight x.straight x.diagonal < top)) ⊎ ((x.straight ≡ 16777216) × (x.diagonal ≡ 0))
known x = ⊎_elim
    (λ h. inl (few-within 16777215 x.straight x.diagonal h, omega (arith, light_within 16777215 x.straight x.diagonal (omega arith) h)))
    (λ h. inr (grind (arith, nat_tests))) (or_cases (within 16777215 x.straight x.diagonal) _ x.capped)

pub few : (x : Octile) → x.diagonal ≤ 16777215
few x = omega (arith, known x)

-- what `cmp` compares
abbrev pub weight_of : Octile → ℕ
weight_of x = weight x.straight x.diagonal

-- two costs weigh the same where their steps are the same
pub same_weight : (x y : Octile) → (x.straight == y.straight && x.diagonal == y.diagonal) ≡ eq_by_cmp (on weight_of nat_cmp) x y
same_weight x y =
    let h = weight-one x.straight x.diagonal y.straight y.diagonal (omega (arith, few x)) (omega (arith, few y)) in grind (arith, nat_tests)

-- `<` is `less_o`, and `<=` that the other is not less
pub less_weight : (x y : Octile) → is_lt (nat_cmp (weight_of x) (weight_of y)) ≡ less_o x y
less_weight x y =
    let h = below-weight x.straight x.diagonal y.straight y.diagonal (omega (arith, few x)) (omega (arith, few y)) in grind (arith, nat_tests)

pub le_weight : (x y : Octile) → is_le (nat_cmp (weight_of x) (weight_of y)) ≡ not (less_o y x)
le_weight x y = let h = less_weight y x in grind (arith, nat_tests)

abbrev rank : Octile → ℕ
rank x = min (weight_of x) top

rank-one : (x y : Octile) → rank x ≡ rank y → x ≡ y
rank-one x y e =
    let u : weight x.straight x.diagonal ≡ weight y.straight y.diagonal = omega (arith, known x, known y) in
    let h = weight-one x.straight x.diagonal y.straight y.diagonal (omega (arith, few x)) (omega (arith, few y)) u in
    same_octile x y h.0 h.1

rank-octile : (m n : ℕ) → n < 93222358 → rank (octile m n) ≡ min (weight m n) top
rank-octile m n s =
    ⊎_elim (λ t. rw t (omega arith)) (λ f. rw f (omega (arith, heavy_beyond 16777215 m n s f))) (cases_Bool (within 16777215 m n))

rank-plus : (x y : Octile) → rank (plus_o x y) ≡ min (rank x + rank y) top
rank-plus x y =
    rank-octile (x.straight + y.straight) (x.diagonal + y.diagonal) (omega (arith, few x, few y)) ∙ omega arith

rank_less : (x y : Octile) → less_o x y ≡ nat_lt (rank x) (rank y)
rank_less x y =
    below-weight x.straight x.diagonal y.straight y.diagonal (omega (arith, few x)) (omega (arith, few y)) ∙
    same_ltb _ _ _ _ (λ h. omega (arith, known x, known y)) (λ h. omega (arith, known x, known y))

rank-way : (x : Octile) → way_o x ≡ true → (0 < rank x) × (rank x ≤ 65535 * 93222358)
rank-way x h =
    let p = and_parts (below 0 0 x.straight x.diagonal) _ h in
    let a : 0 < weight_of x = grind (arith, nat_tests) in
    let b = light_within 65535 x.straight x.diagonal (omega arith) p.1 in
    omega arith

ranked : Ranked zero_o over_o plus_o less_o way_o rank top (65535 * 93222358)
ranked = record {
  one = rank-one;
  at_most = λ a. omega arith;
  zero_rank = refl;
  over-rank = refl;
  plus-rank = rank-plus;
  less-rank = rank_less;
  way-rank = rank-way;
  enough = omega arith;
}

-- what is told of a cost that is not Over
kept : (x : Octile) → x.straight < 16777216 → within 16777215 x.straight x.diagonal ≡ true
kept x r =
    ⊎_elim (λ h. h) (λ h. absurd (grind (arith, nat_tests))) (or_cases (within 16777215 x.straight x.diagonal) _ x.capped)

octile-back : (x : Octile) → x.straight < 16777216 → octile x.straight x.diagonal ≡ x
octile-back x r = let h = kept x r in same_octile _ _ (cond-true _ _ _ h) (cond-true _ _ _ h)

of_word : (x : Octile) → x.straight < 16777216 → unword_o (x.straight * 4294967296 + x.diagonal) ≡ x
of_word x r =
    let d : (x.straight * 4294967296 + x.diagonal) / 4294967296 ≡ x.straight = omega (arith, few x) in
    let e : (x.straight * 4294967296 + x.diagonal) % 4294967296 ≡ x.diagonal = omega (arith, few x) in
    (λ i. octile (d i) (e i)) ∙ octile-back x r

back : (x : Octile) → unword_o (word_o x) ≡ x
back x =
    ⊎_elim (λ h. rw (lt-ltb x.straight 16777216 h) (of_word x h))
    (λ h. rw (le-ltb x.straight 16777216 h) (same_octile _ _ (omega (arith, known x)) (omega (arith, known x)))) (cases_lt x.straight 16777216)

-- so many straight steps alone are worth more than the cap
straight-within : (m n : ℕ) → within 16777215 m n ≡ true → m < 16777216
straight-within m n h = omega (arith, light_within 16777215 m n (omega arith) h)

read : (m n k : ℕ) → within 16777215 m n ≡ true → m * 4294967296 + n ≡ k → word_o (octile m n) ≡ k
read m n k h e = rw h (cond-true _ _ _ (lt-ltb m 16777216 (straight-within m n h)) ∙ e)

other : (n : ℕ) → (unword_o n ≡ over_o) ⊎ (word_o (unword_o n) ≡ n)
other n =
    ⊎_elim (λ t. inr (read (n / 4294967296) (n % 4294967296) n t (omega arith)))
    (λ f. inl (same_octile _ _ (cond-false _ _ _ f) (cond-false _ _ _ f)))
    (cases_Bool (within 16777215 (n / 4294967296) (n % 4294967296)))

pub laws_o : CostLaws zero_o over_o plus_o less_o way_o word_o unword_o
laws_o = laws_by_rank ranked word_o unword_o back other
