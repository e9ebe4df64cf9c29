-- Shown: where the number of cells is right, a sheet is refused for its earliest cell that is neither free nor blocked.
use Rattle.std.proofs.Common.{◌≡◌, ℕ, zero, suc, ◌*◌, ◌≤◌, Bool, true, false, cond, not, ◌||◌, eqb, ltb, List, length, get_or, is_some, Some, None, Ok, Err, Option, Result, sym, refl, ap, ◌∙◌, ⊎_elim, arith}
use Rattle.std.proofs.lemmas.Bool.{false≢true, eq-eqb, eqb-true, cond-true, cond-false, cases_lt, lt-ltb, le-ltb}
use Rattle.std.specs.Result.{is_err}
use Rattle.std.specs.Option.{option_map}
use Rattle.std.specs.List.{position_or_len}
use Rattle.std.proofs.lemmas.List.Sums.{fails_before_first, passes_at_first}
use Rattle.sheet.specs.declared.cell.Cell.{Cell}
use Rattle.sheet.specs.declared.cell.Cell.TheVariants.{Free, Blocked}
use Rattle.sheet.specs.declared.cell.UnknownCell.{UnknownCell}
use Rattle.ground.specs.declared.refusal.Refusal.{Refusal}
use Rattle.ground.specs.declared.refusal.Refusal.TheVariants.{SizeOutOfRange, WrongLength, CellUnknown}
use Rattle.ground.specs.Refusals.{outcome}
use Rattle.ground.specs.Earliest.{earliest}
use Rattle.ground.proofs.Earliest.{found_at}
use Rattle.sheet.specs.Sheets.{decoded, wrong_size, cell_count, cell_refusal, sheet_refusal, accepts}

unless : (b : Bool) (m n : ℕ) → Some m ≡ cond b None (Some n) → (b ≡ false) × (m ≡ n)
unless true m n e = let z : ◌≡◌ {A = ℕ} 0 1 = cc in absurd (omega arith)
unless false m n e = (refl, cc)

by_cells : (w h n : ℕ) (cells : List ℕ) → Some n ≡ cell_count w h → length cells ≡ n → sheet_refusal w h cells ≡ earliest (cell_refusal cells) n
by_cells w h n cells e l =
    let p = unless (wrong_size w h) n (w * h) e in
    cond-false (wrong_size w h) _ _ p.0 ∙ cond-true _ _ _ (eq-eqb (length cells) (w * h) (l ∙ p.1)) ∙ ap (earliest (cell_refusal cells)) (sym p.1)

abbrev unknown : ℕ → Bool
unknown byte = is_err (decoded byte)

abbrev read : Bool → Bool → Result Cell UnknownCell
read p q = cond p (Ok Free) (cond q (Ok Blocked) (Err record {}))

either : (p q : Bool) (r : Option Refusal) → cond (p || q) None r ≡ cond (is_err (read p q)) r None
either true q r = refl
either false true r = refl
either false false r = refl

-- the first unknown cell is the earliest that is refused
module _ (cells : List ℕ) where
  abbrev first : ℕ
  first = position_or_len unknown cells

  refused_at : (k : ℕ) (b : Bool) → unknown (get_or cells k 0) ≡ b → cell_refusal cells k ≡ cond b (Some (CellUnknown k)) None
  refused_at k b e =
      either (eqb (get_or cells k 0) 0) (eqb (get_or cells k 0) 1) (Some (CellUnknown k)) ∙ ap (λ t. cond t (Some (CellUnknown k)) None) e

  none_before : (i : ℕ) → i ≤ first → earliest (cell_refusal cells) i ≡ None
  none_before zero l = refl
  none_before (suc i) l = rw (none_before i (omega arith), refused_at i false (fails_before_first unknown cells i 0 (omega arith)))

  first_unknown : earliest (cell_refusal cells) (length cells) ≡ option_map CellUnknown (cond (ltb first (length cells)) (Some first) None)
  first_unknown =
      ⊎_elim
      (λ l. found_at (cell_refusal cells) (length cells) first _ (none_before first (omega arith)) (refused_at first true (passes_at_first unknown cells 0 l)) l ∙ rw (lt-ltb first (length cells) l))
      (λ l. none_before (length cells) l ∙ rw (le-ltb first (length cells) l))
      (cases_lt first (length cells))

  -- what is refused, where the search for an unknown cell answers o
  pub by_search : (w h n : ℕ) (o : Option ℕ) → Some n ≡ cell_count w h → length cells ≡ n → o ≡ cond (ltb first (length cells)) (Some first) None →
      sheet_refusal w h cells ≡ option_map CellUnknown o
  by_search w h n o e l p =
      by_cells w h n cells e l ∙ ap (earliest (cell_refusal cells)) (sym l) ∙ first_unknown ∙ ap (option_map CellUnknown) (sym p)

module _ (w h : ℕ) (cells : List ℕ) where
  not_refused : (o : Option Refusal) → is_err (outcome o) ≡ false → not (is_some o) ≡ true
  not_refused None e = refl
  not_refused (Some r) e = cc

  pub accepted : is_err (outcome (sheet_refusal w h cells)) ≡ false → accepts w h cells ≡ true
  accepted e = not_refused (sheet_refusal w h cells) e

  right_length : (p q : Bool) (o : Option Refusal) → not (is_some (cond p (Some SizeOutOfRange) (cond q o (Some WrongLength)))) ≡ true → (p ≡ false) × (q ≡ true)
  right_length true q o e = absurd (false≢true e)
  right_length false true o e = (refl, refl)
  right_length false false o e = absurd (false≢true e)

  -- an accepted sheet has as many bytes as cells, and not too many
  sized : accepts w h cells ≡ true → (wrong_size w h ≡ false) × (eqb (length cells) (w * h) ≡ true)
  sized e = right_length (wrong_size w h) (eqb (length cells) (w * h)) _ e

  pub as_many : accepts w h cells ≡ true → length cells ≡ w * h
  as_many e = eqb-true (length cells) (w * h) (sized e).1
