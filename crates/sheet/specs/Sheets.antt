-- Sheets: cells in rows, each free or blocked, with ways between free cells that touch.
--   cell_count     how many cells there are, where a sheet may have so many
--   decoded        the cell that a byte stands for, if it stands for one
--   sheet_refusal  why a sheet is refused, if it is
--   sheet_width, sheet_height, sheet_size, sheet_shut
--                  the sheet that is made: as asked where it is accepted, otherwise without cells
--   sheet_chart    the ways of a sheet, whatever is shut
use Rattle.std.specs.Prelude.{ℕ, ◌+◌, ◌-◌, ◌*◌, ◌/◌, ◌%◌, Bool, cond, not, ◌&&◌, ◌||◌, List, length, is_some, Some, None, Ok, Err, Option, Result, ◌==◌, nat_lt, slice_index}
use Rattle.cost.specs.declared.octile.Octile.{Octile}
use Rattle.cost.specs.Octiles.{octile}
use Rattle.ground.specs.declared.refusal.Refusal.{Refusal}
use Rattle.ground.specs.declared.refusal.Refusal.TheVariants.{SizeOutOfRange, WrongLength, CellUnknown}
use Rattle.sheet.specs.declared.cell.Cell.{Cell}
use Rattle.sheet.specs.declared.cell.Cell.TheVariants.{Free, Blocked}
use Rattle.sheet.specs.declared.cell.UnknownCell.{UnknownCell}
use Rattle.ground.specs.Earliest.{earliest}
use Rattle.ground.specs.Marks.{free_under}

-- WHICH SHEETS ARE ACCEPTED: width w, height h, and a byte for each cell, 0 where it is free and 1 where it is blocked

abbrev pub wrong_size : ℕ → ℕ → Bool
wrong_size w h = w == 0 || (h == 0 || nat_lt 256 (w * h))

abbrev pub cell_count : ℕ → ℕ → Option ℕ
cell_count w h = cond (wrong_size w h) None (Some (w * h))

abbrev pub decoded : ℕ → Result Cell UnknownCell
decoded byte = cond (byte == 0) (Ok Free) (cond (byte == 1) (Ok Blocked) (Err record {}))

abbrev pub known_cell : ℕ → Bool
known_cell byte = byte == 0 || byte == 1

abbrev pub cell_refusal : List ℕ → ℕ → Option Refusal
cell_refusal cells k = cond (known_cell (slice_index cells k)) None (Some (CellUnknown k))

abbrev pub sheet_refusal : ℕ → ℕ → List ℕ → Option Refusal
sheet_refusal w h cells =
    cond (wrong_size w h) (Some SizeOutOfRange) (cond (length cells == w * h) (earliest (cell_refusal cells) (w * h)) (Some WrongLength))

-- THE SHEET THAT IS MADE

abbrev pub accepts : ℕ → ℕ → List ℕ → Bool
accepts w h cells = not (is_some (sheet_refusal w h cells))

abbrev pub sheet_width : ℕ → ℕ → List ℕ → ℕ
sheet_width w h cells = cond (accepts w h cells) w 0

abbrev pub sheet_height : ℕ → ℕ → List ℕ → ℕ
sheet_height w h cells = cond (accepts w h cells) h 0

abbrev pub sheet_size : ℕ → ℕ → List ℕ → ℕ
sheet_size w h cells = cond (accepts w h cells) (w * h) 0

abbrev pub blocked_cell : ℕ → Bool
blocked_cell byte = byte == 1

-- whether the cell at a place is blocked; past the last there is none
abbrev pub blocked : List ℕ → ℕ → Bool
blocked cells k = blocked_cell (slice_index cells k)

abbrev pub sheet_shut : ℕ → ℕ → List ℕ → ℕ → Bool
sheet_shut w h cells k = accepts w h cells && blocked cells k

-- THE WAYS: a place is row × w + column

abbrev pub row_of : ℕ → ℕ → ℕ
row_of w a = a / w

abbrev pub column_of : ℕ → ℕ → ℕ
column_of w a = a % w

abbrev pub cell : ℕ → ℕ → ℕ → ℕ
cell w row column = row * w + column

-- the difference of two numbers
abbrev pub between : ℕ → ℕ → ℕ
between x y = (x - y) + (y - x)

abbrev pub rows_between : ℕ → ℕ → ℕ → ℕ
rows_between w a b = between (row_of w a) (row_of w b)

abbrev pub columns_between : ℕ → ℕ → ℕ → ℕ
columns_between w a b = between (column_of w a) (column_of w b)

-- in one row and neighbouring columns, or in one column and neighbouring rows
abbrev pub share_side : ℕ → ℕ → ℕ → Bool
share_side w a b = rows_between w a b + columns_between w a b == 1

-- in neighbouring rows and neighbouring columns
abbrev pub touch_at_corner : ℕ → ℕ → ℕ → Bool
touch_at_corner w a b = rows_between w a b == 1 && columns_between w a b == 1

-- both cells beside the corner at which a and b touch are free
abbrev pub corner_free : ℕ → (ℕ → Bool) → ℕ → ℕ → Bool
corner_free w free a b = free (cell w (row_of w a) (column_of w b)) && free (cell w (row_of w b) (column_of w a))

-- one straight step between cells that share a side, one diagonal step between cells that touch at a free corner, and no other way
abbrev pub way_between : ℕ → (ℕ → Bool) → ℕ → ℕ → Option Octile
way_between w free a b =
    cond (share_side w a b) (Some (octile 1 0)) (cond (touch_at_corner w a b && corner_free w free a b) (Some (octile 0 1)) None)

-- the ways between free cells of a sheet of width w and height h
abbrev pub sheet_chart : ℕ → ℕ → (ℕ → Bool) → ℕ → ℕ → Option Octile
sheet_chart w h s a b = let free = free_under (w * h) s in cond (free a && free b) (way_between w free a b) None
