-- Shown: which of two sums of steps is worth less, by one number a side. The fraction 131836323 / 93222358 is above √2 by so
-- little (131836323² is 2 · 93222358² + 1) that no fraction with a smaller denominator lies between.
use Rattle.std.specs.Prelude.{◌≡◌, ℕ, ◌+◌, ◌-◌, ◌*◌, ◌<◌, ◌≤◌, ◌⊎◌, nat_lt}
use Rattle.std.proofs.Common.{inl, inr, ⊎_elim, mul-le-mul, arith}
use Rattle.std.proofs.lemmas.Bool.{cases_lt, cases_order}
use Rattle.std.proofs.lemmas.Bool.Decides.{nat_tests}
use Rattle.cost.specs.Worth.{below}

abbrev pub weight : ℕ → ℕ → ℕ
weight m n = m * 93222358 + n * 131836323

pub squares : (a b : ℕ) → ((a < b) × (a * a + 2 * a < b * b)) ⊎ ((b ≤ a) × (b * b ≤ a * a))
squares a b =
    ⊎_elim (λ r. inl (r, omega (arith, mul-le-mul {n₁ = a + 1} {m₁ = a + 1} {n₂ = b} {m₂ = b} (omega arith) (omega arith))))
    (λ r. inr (r, mul-le-mul r r)) (cases_lt a b)

-- a < b√2
under : (a b : ℕ) → a * a < 2 * (b * b) → a * 93222358 < b * 131836323
under a b h = omega (arith, squares (a * 93222358) (b * 131836323))

-- b√2 < a
above : (a b : ℕ) → b < 93222358 → 2 * (b * b) < a * a → b * 131836323 < a * 93222358
above a b s h = omega (arith, squares (b * 131836323) (a * 93222358), squares b 93222358)

-- a = b√2 at 0 alone
level : (a b : ℕ) → b < 93222358 → a * a ≡ 2 * (b * b) → (a ≡ 0) × (b ≡ 0)
level a b s h =
    let t : b * b ≤ a * 93222358 = mul-le-mul (omega (arith, squares a b)) (omega arith) in
    omega (arith, squares (a * 93222358) (b * 131836323), squares 0 a, squares 0 b)

pub root : (a b : ℕ) → b < 93222358 →
    ((a * a < 2 * (b * b)) × (a * 93222358 < b * 131836323)) ⊎ (((2 * (b * b) < a * a) × (b * 131836323 < a * 93222358)) ⊎ ((a ≡ 0) × (b ≡ 0)))
root a b s =
    ⊎_elim (λ e. inr (inr (level a b s e))) (λ o. ⊎_elim (λ l. inl (l, under a b l)) (λ g. inr (inl (g, above a b s g))) o)
    (cases_order (a * a) (2 * (b * b)))

pub same_ltb : (a b c d : ℕ) → (a < b → c < d) → (c < d → a < b) → nat_lt a b ≡ nat_lt c d
same_ltb a b c d f g = grind (arith, nat_tests)

pub below-weight : (m n p q : ℕ) → n < 93222358 → q < 93222358 → below m n p q ≡ nat_lt (weight m n) (weight p q)
below-weight m n p q s t =
    let r = root (p - m) (n - q) (omega arith) in
    let l = root (m - p) (q - n) (omega arith) in
    grind (arith, nat_tests)

-- two pairs of one weight are one
pub weight-one : (m n p q : ℕ) → n < 93222358 → q < 93222358 → weight m n ≡ weight p q → (m ≡ p) × (n ≡ q)
weight-one m n p q s t e = omega (arith, root (m - p) (q - n) (omega arith), root (p - m) (n - q) (omega arith))
