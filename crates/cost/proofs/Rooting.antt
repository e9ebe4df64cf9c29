-- Shown: steps are below others by signs and squares exactly when they are worth less, by fractions on both sides of √2.
use Rattle.std.proofs.Common.{◌≡◌, ℕ, ◌+◌, ◌-◌, ◌*◌, ◌<◌, ◌≤◌, true, ◌⊎◌, Decides, sym, ◌∙◌, inl, inr, ⊎_elim, mul-le-mul_right, mul-le-mul_left, arith}
use native.Mathlib.Nat.{mul-sub}
use Rattle.std.proofs.lemmas.Bool.{cases_lt, ltb-true}
use Rattle.std.proofs.lemmas.Bool.Decides.{nat_tests}
use Rattle.cost.specs.Worth.{below}
use Rattle.cost.specs.Roots.{LessAtRoot, LessWorth}
use Rattle.cost.specs.Pell.{squares, root, below-weight}

-- a / b < u / v < √2
under_low : (a b u v : ℕ) → u * u < 2 * (v * v) → a * v < b * u → a * a < 2 * (b * b)
under_low a b u v h k =
    ⊎_elim (λ r. r) (λ r. absurd (omega (arith, squares (a * v) (b * u), mul-le-mul_right (v * v) r, mul-le-mul_left (b * b) h)))
    (cases_lt (a * a) (2 * (b * b)))

-- √2 < s / t < a / b
over_high : (a b s t : ℕ) → 2 * (t * t) < s * s → b * s < a * t → 2 * (b * b) < a * a
over_high a b s t h k =
    ⊎_elim (λ r. r) (λ r. absurd (omega (arith, squares (b * s) (a * t), mul-le-mul_right (t * t) r, mul-le-mul_left (b * b) h)))
    (cases_lt (2 * (b * b)) (a * a))

from_root : (m n p q u v s t : ℕ) → LessAtRoot m n p q u v s t → below m n p q ≡ true
from_root m n p q u v s t h =
    let over : m < p → q < n → 2 * ((n - q) * (n - q)) < (p - m) * (p - m) =
    λ k l. over_high (p - m) (n - q) s t h.high_above (omega (arith, h.at_high, mul-sub t p m, mul-sub s n q, mul-le-mul_left t k, mul-le-mul_left s l)) in
    let under : p ≤ m → n < q → (m - p) * (m - p) < 2 * ((q - n) * (q - n)) =
    λ k l. under_low (m - p) (q - n) u v h.low_under (omega (arith, h.at_low, mul-sub v m p, mul-sub u q n, mul-le-mul_left v k, mul-le-mul_left u l)) in
    let never : p ≤ m → q ≤ n → ⊥ = λ k l. omega (arith, h.at_low, mul-le-mul_left v k, mul-le-mul_left u l) in
    grind (arith, nat_tests)

-- 2 · 93222358 / 131836323 is as little below √2
lower : (a b : ℕ) → b < 93222358 →
    ((a * a < 2 * (b * b)) × (a * 131836323 < b * 186444716)) ⊎ (((2 * (b * b) < a * a) × (b * 186444716 < a * 131836323)) ⊎ ((a ≡ 0) × (b ≡ 0)))
lower a b s =
    ⊎_elim (λ l. inl (l.0, omega (arith, squares (a * 131836323) (b * 186444716), squares b 93222358)))
    (λ o. ⊎_elim (λ g. inr (inl (g.0, omega (arith, squares (b * 186444716) (a * 131836323))))) (λ z. inr (inr z)) o)
    (root a b s)

less_low : (m n p q : ℕ) → n < 93222358 → q < 93222358 → below m n p q ≡ true →
    m * 131836323 + n * 186444716 < p * 131836323 + q * 186444716
less_low m n p q s t h =
    let r = lower (p - m) (n - q) (omega arith) in
    let l = lower (m - p) (q - n) (omega arith) in
    grind (arith, nat_tests)

to_root : (m n p q : ℕ) → n < 93222358 → q < 93222358 → below m n p q ≡ true → LessAtRoot m n p q 186444716 131836323 131836323 93222358
to_root m n p q s t h = record {
  low_under = omega arith;
  high_above = omega arith;
  at_low = less_low m n p q s t h;
  at_high = ltb-true _ _ (sym (below-weight m n p q s t) ∙ h);
}

pub less_worth : (m n p q : ℕ) → n < 93222358 → q < 93222358 → Decides (below m n p q) (LessWorth m n p q)
less_worth m n p q s t = ((λ e. (_, _, _, _, to_root m n p q s t e)), (λ c. from_root m n p q c.0 c.1 c.2 c.3 c.4))
