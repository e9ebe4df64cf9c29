-- The earliest of many answers.
--   or_else   the first answer, or the second where there is none
--   earliest  of the answers at 0, 1, .. below n the earliest that there is
use Rattle.std.specs.Prelude.{ℕ, zero, suc, Some, None, Option}

abbrev pub or_else : {A : Type 0} → Option A → Option A → Option A
or_else (Some x) o = Some x
or_else None o = o

abbrev pub earliest : {A : Type 0} → (ℕ → Option A) → ℕ → Option A
earliest f zero = None
earliest f (suc k) = or_else (earliest f k) (f k)
