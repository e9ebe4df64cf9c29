use Rattle.std.proofs.Common.{◌+◌, ◌*◌, ◌<◌, arith, w8, to_z, of_z}
use Rattle.std.proofs.lemmas.Nat.{mul-add-lt}
use Rattle.sheet.proofs.Moves.{moved-below}
use Rattle.sheet.proofs.Sheet.neighbour.Goals as goal

on-sheet : (c : goal.In_ok-column) → c.in_ok-row.row * c.args.self.now.width + c.in_ok-column.column < 257
on-sheet c =
    let w = c.args.self.now.width in
    let h = c.args.self.now.height in
    let r = moved-below c.in_ok-checked_div.field-0 (to_z w8 (of_z w8 c.args.by.down)) h c.in_ok-row.row c.in_ok-row.ensures in
    let k = moved-below c.in_ok-checked_rem.field-0 (to_z w8 (of_z w8 c.args.by.right)) w c.in_ok-column.column c.in_ok-column.ensures in
    omega (arith, mul-add-lt c.in_ok-row.row w c.in_ok-column.column h r k, c.args.self.now.filled, c.args.self.now.places.few)

pub overflow_mul-result : goal.overflow_mul-result
overflow_mul-result c = omega (arith, on-sheet c)

pub overflow_add-result : goal.overflow_add-result
overflow_add-result c = omega (arith, on-sheet c)
