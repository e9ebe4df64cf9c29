-- The steps from a cell to the cells around it, as a table.
--   moved         a row or a column so far on, where that is one of the sheet
--   neighbour_of  the place so far from another, where there is one
--   step_to       the step that leads from a place to another, if one does
--   step_between  the same between free places
--   past          what a step costs that passes these cells, or none where one of them is not free
--   step_way      the same of a step, if there is one
use Rattle.std.specs.Prelude.{ℕ, ◌+◌, ◌*◌, ◌/◌, ◌%◌, Bool, false, cond, ◌&&◌, List, [], ◌∷◌, ℤ, pos, negsuc, ◌+ℤ◌, Some, None, Option, ◌==◌, nat_lt}
use Rattle.std.specs.List.{find}
use Rattle.cost.specs.declared.octile.Octile.{Octile}
use Rattle.cost.specs.Octiles.{octile}
use Rattle.sheet.specs.declared.steps.Offset.{Offset}
use Rattle.sheet.specs.declared.steps.Step.{Step}

abbrev offset : ℤ → ℤ → Offset
offset d r = record { down = d; right = r }

abbrev straight : ℤ → ℤ → Step
straight d r = record { to = offset d r; beside = None }

-- beside a diagonal step lie the cell in its column and the row that it leaves, and the cell in its row and the column that it leaves
abbrev diagonal : ℤ → ℤ → Step
diagonal d r = record { to = offset d r; beside = Some (offset (pos 0) r, offset d (pos 0)) }

abbrev pub table : List Step
table =
    straight (negsuc 0) (pos 0) ∷
    straight (pos 1) (pos 0) ∷
    straight (pos 0) (negsuc 0) ∷
    straight (pos 0) (pos 1) ∷
    diagonal (negsuc 0) (negsuc 0) ∷
    diagonal (negsuc 0) (pos 1) ∷
    diagonal (pos 1) (negsuc 0) ∷
    diagonal (pos 1) (pos 1) ∷ []

abbrev pub below_end : ℕ → ℤ → Option ℕ
below_end end (pos n) = cond (nat_lt n end) (Some n) None
below_end end (negsuc n) = None

abbrev pub moved : ℕ → ℤ → ℕ → Option ℕ
moved at by end = below_end end (pos at +ℤ by)

abbrev pub placed : ℕ → Option ℕ → Option ℕ → Option ℕ
placed w None column = None
placed w (Some row) None = None
placed w (Some row) (Some column) = Some (row * w + column)

abbrev pub neighbour_of : ℕ → ℕ → ℕ → Offset → Option ℕ
neighbour_of w h a by = placed w (moved (a / w) by.down h) (moved (a % w) by.right w)

abbrev pub is_place : Option ℕ → ℕ → Bool
is_place None b = false
is_place (Some a) b = a == b

abbrev pub free_at : (ℕ → Bool) → Option ℕ → Bool
free_at free None = false
free_at free (Some a) = free a

unfoldable pub step_to : ℕ → ℕ → ℕ → ℕ → Option Step
step_to w h a b = find (λ s. is_place (neighbour_of w h a s.to) b) table

abbrev pub step_between : (ℕ → Bool) → ℕ → ℕ → ℕ → ℕ → Option Step
step_between free w h a b = cond (free a && free b) (step_to w h a b) None

abbrev pub past : (Offset → Bool) → Option (Offset × Offset) → Option Octile
past free None = Some (octile 1 0)
past free (Some sides) = cond (free sides.0 && free sides.1) (Some (octile 0 1)) None

abbrev pub step_way : (Offset → Bool) → Option Step → Option Octile
step_way free None = None
step_way free (Some s) = past free s.beside
