use Rattle.std.proofs.Common.{◌≡◌, ℕ, ◌&&◌, ltb, length}
use Rattle.ground.specs.Marks.{size_in, shut_in}
use Rattle.sheet.specs.Sheets.{blocked}
use Rattle.sheet.proofs.make.places_of.Given as goal

abbrev pub invariant-loop-place : goal.invariant-loop-place
invariant-loop-place l =
    (size_in l.places ≡ length l.cells) × ((k : ℕ) → shut_in l.places k ≡ (ltb k l.place && blocked l.cells k))
