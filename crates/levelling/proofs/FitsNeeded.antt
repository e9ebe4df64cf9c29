-- Shown: a list of needed shortcuts fits memory.
use Rattle.std.proofs.Common.{ℕ, ◌+◌, ◌^◌, ◌<◌, ◌≤◌, max, arith}
use prog.Memory.{up}
use Rattle.levelling.proofs.Fits.{up_le, list, shortcuts, shortcuts_few}

-- costs of s bytes that are aligned to a
pub needed_fits : (a s : ℕ) → a ≤ 16 → s < 2 ^ 32 → up (max (list a s) 1) (up (list a s) 0 + shortcuts a s) < 9223372036854775808
needed_fits a s h k =
    let few = shortcuts_few a s h k in
    let none = up_le (list a s) 0 16 (omega arith) in
    let whole = up_le (max (list a s) 1) (up (list a s) 0 + shortcuts a s) 16 (omega arith) in
    omega arith
