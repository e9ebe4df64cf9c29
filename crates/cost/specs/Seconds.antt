-- Seconds as costs: whole numbers up to 16777215, and Over, which stands at the next number.
--   seconds  n seconds, or Over where that is too many
--   number_of what `Seconds::number` answers
--   *_s      what the ghost members of `Cost` are at `Seconds`
use Rattle.std.specs.Prelude.{ℕ, ◌+◌, ◌≤◌, min, Bool, cond, ◌&&◌, Some, None, Option, nat_le, nat_lt}
use Rattle.std.proofs.Common.{arith}
use Rattle.cost.specs.declared.seconds.Seconds.{Seconds}

abbrev of_number : (n : ℕ) → n ≤ 16777216 → Seconds
of_number n h = record { number = n; capped = h }

abbrev pub seconds : ℕ → Seconds
seconds n = of_number (min n 16777216) (omega arith)

abbrev pub number_of : Seconds → Option ℕ
number_of x = cond (nat_lt x.number 16777216) (Some x.number) None

abbrev pub zero_s : Seconds
zero_s = seconds 0

abbrev pub over_s : Seconds
over_s = seconds 16777216

abbrev pub plus_s : Seconds → Seconds → Seconds
plus_s x y = seconds (x.number + y.number)

abbrev pub less_s : Seconds → Seconds → Bool
less_s x y = nat_lt x.number y.number

abbrev pub way_s : Seconds → Bool
way_s x = nat_le 1 x.number && nat_le x.number 65535

abbrev pub word_s : Seconds → ℕ
word_s x = cond (nat_lt x.number 16777216) x.number 18446744073709551615

abbrev pub unword_s : ℕ → Seconds
unword_s n = seconds n
