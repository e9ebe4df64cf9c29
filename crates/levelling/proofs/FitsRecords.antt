-- Shown: the records of a search fit memory.
use Rattle.std.proofs.Common.{ℕ, ◌+◌, ◌*◌, ◌^◌, ◌<◌, ◌≤◌, max, arith}
use prog.Memory.{up}
use Rattle.levelling.proofs.Fits.{up_le}

-- costs of s bytes that are aligned to a
pub records_fit : (a s : ℕ) → a ≤ 16 → s < 2 ^ 32 → 256 * up (max 1 (max a 8)) (up 8 (up a 1 + s) + 8) < 9223372036854775808
records_fit a s h k =
    let b = max 1 (max a 8) in
    let hb : b ≤ 16 = omega arith in
    let cost = up_le a 1 16 h in
    let predecessor = up_le 8 (up a 1 + s) 16 (omega arith) in
    let whole = up_le b (up 8 (up a 1 + s) + 8) 16 hb in
    omega arith
