-- Shown: a book of small costs fits memory. Costs have s bytes and are aligned to a.
use Rattle.std.proofs.Common.{ℕ, ◌+◌, ◌-◌, ◌*◌, ◌%◌, ◌^◌, ◌<◌, ◌≤◌, max, arith}
use native.Mathlib.Nat.{mod-le}
use prog.Memory.{up}

-- rounding up adds no more than what is rounded to
pub up_le : (k e b : ℕ) → k ≤ b → up k e ≤ e + b
up_le k e b h = let m = mod-le (k - e % k) k in omega arith

module _ (a s : ℕ) where
  -- what an entry is aligned to, and how many bytes all of them take
  abbrev entry : ℕ
  entry = max 1 (max (max a 1) 2)

  abbrev entries : ℕ
  entries = up (max entry 1) (up entry 0 + 65536 * up entry (max 1 (max (up a 1 + s) 4)))

  -- what a shortcut is aligned to, and how many bytes a list of 2,048 takes
  abbrev shortcut : ℕ
  shortcut = max 8 (max 8 (max 8 (max a 1)))

  abbrev pub list : ℕ
  list = max (max shortcut 1) 8

  abbrev pub shortcuts : ℕ
  shortcuts = up list (up 1 (up 8 (up (max shortcut 1) 0 + up (max shortcut 1) (up shortcut 0 + 2048 * up shortcut (up a 24 + s))) + 8) + 0)

  module _ (h : a ≤ 16) (k : s < 2 ^ 32) where
    entries_few : entries < 2 ^ 50
    entries_few =
        let one = up_le a 1 16 h in
        let start = up_le entry 0 16 (omega arith) in
        let each = up_le entry (max 1 (max (up a 1 + s) 4)) 16 (omega arith) in
        let all = up_le (max entry 1) (up entry 0 + 65536 * up entry (max 1 (max (up a 1 + s) 4))) 16 (omega arith) in
        omega arith

    pub shortcuts_few : shortcuts < 2 ^ 50
    shortcuts_few =
        let cost = up_le a 24 16 h in
        let start = up_le shortcut 0 16 (omega arith) in
        let each = up_le shortcut (up a 24 + s) 16 (omega arith) in
        let cells = up_le (max shortcut 1) (up shortcut 0 + 2048 * up shortcut (up a 24 + s)) 16 (omega arith) in
        let first = up_le (max shortcut 1) 0 16 (omega arith) in
        let length = up_le 8 (up (max shortcut 1) 0 + up (max shortcut 1) (up shortcut 0 + 2048 * up shortcut (up a 24 + s))) 16 (omega arith) in
        let none = up_le 1 (up 8 (up (max shortcut 1) 0 + up (max shortcut 1) (up shortcut 0 + 2048 * up shortcut (up a 24 + s))) + 8) 16 (omega arith) in
        let all = up_le list (up 1 (up 8 (up (max shortcut 1) 0 + up (max shortcut 1) (up shortcut 0 + 2048 * up shortcut (up a 24 + s))) + 8) + 0) 16 (omega arith) in
        omega arith

pub book_fits : (a s : ℕ) → a ≤ 16 → s < 2 ^ 32 →
    up (max 1 (max (max (entry a s) 1) (max (list a s) 1))) (up (list a s) (up (max (entry a s) 1) 256 + entries a s) + shortcuts a s) < 9223372036854775808
book_fits a s h k =
    let few = entries_few a s h k in
    let short = shortcuts_few a s h k in
    let levels = up_le (max (entry a s) 1) 256 16 (omega arith) in
    let middle = up_le (list a s) (up (max (entry a s) 1) 256 + entries a s) 16 (omega arith) in
    let whole = up_le (max 1 (max (max (entry a s) 1) (max (list a s) 1))) (up (list a s) (up (max (entry a s) 1) 256 + entries a s) + shortcuts a s) 16 (omega arith) in
    omega arith
