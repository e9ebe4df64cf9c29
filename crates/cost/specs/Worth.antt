-- What steps are worth: 1 for a straight one and √2 for a diagonal one.
--   square  a number times itself
--   below   m + n√2 < p + q√2
--   within  m + n√2 ≤ l
--   told    a cost of at most 16777215, or the pair that stands for Over
use Rattle.std.specs.Prelude.{ℕ, ◌-◌, ◌*◌, Bool, true, false, cond, not, ◌&&◌, ◌||◌, ◌==◌, nat_le, nat_lt}

abbrev pub square : ℕ → ℕ
square n = n * n

-- by the signs of m - p and q - n and, where these agree, by (m - p)² against 2 (q - n)²
abbrev pub below : ℕ → ℕ → ℕ → ℕ → Bool
below m n p q =
    cond (nat_lt m p) (cond (nat_le n q) true (nat_lt (2 * square (n - q)) (square (p - m)))) (cond (nat_le q n) false (nat_lt (square (m - p)) (2 * square (q - n))))

abbrev pub within : ℕ → ℕ → ℕ → Bool
within l m n = not (below l 0 m n)

abbrev pub told : ℕ → ℕ → Bool
told m n = within 16777215 m n || (m == 16777216 && n == 0)
