-- The order of octile costs in the words of √2, with no sign and no square of a difference.
--   LessAtRoot  m + n√2 < p + q√2, shown by two fractions with √2 between them
--   LessWorth   there are such fractions
use Rattle.std.specs.Prelude.{ℕ, ◌+◌, ◌*◌, ◌<◌}

-- low / under < √2 < high / above, and m + nr < p + qr at both fractions r, and so at √2, since both sides are linear in r
pub record LessAtRoot (m n p q low under high above : ℕ) : Type 0 where
  pub low_under : low * low < 2 * (under * under)
  pub high_above : 2 * (above * above) < high * high
  pub at_low : m * under + n * low < p * under + q * low
  pub at_high : m * above + n * high < p * above + q * high

abbrev pub LessWorth : ℕ → ℕ → ℕ → ℕ → Type 0
LessWorth m n p q = (low : ℕ) × (under : ℕ) × (high : ℕ) × (above : ℕ) × LessAtRoot m n p q low under high above
