-- Shown: a row or a column that is moved stays on the sheet.
use Rattle.std.proofs.Common.{◌≡◌, ℕ, ◌<◌, Bool, true, false, cond, ltb, ℤ, pos, negsuc, ◌+ℤ◌, Some, None, refl, arith}
use Rattle.std.proofs.lemmas.Bool.{ltb-true}
use Rattle.sheet.specs.Steps.{below_end, moved}

passed : (b : Bool) (m n : ℕ) → Some n ≡ cond b (Some m) None → (b ≡ true) × (m ≡ n)
passed true m n e = (refl, cc)
passed false m n e = let z : ◌≡◌ {A = ℕ} 0 1 = cc in absurd (omega arith)

stays : (end : ℕ) (z : ℤ) (n : ℕ) → Some n ≡ below_end end z → n < end
stays end (pos m) n e = let p = passed (ltb m end) m n e in omega (arith, ltb-true m end p.0, p.1)
stays end (negsuc m) n e = let z : ◌≡◌ {A = ℕ} 0 1 = cc in absurd (omega arith)

pub moved-below : (at : ℕ) (by : ℤ) (end n : ℕ) → Some n ≡ moved at by end → n < end
moved-below at by end n e = stays end (pos at +ℤ by) n e
