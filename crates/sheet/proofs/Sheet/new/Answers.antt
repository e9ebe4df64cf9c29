use Rattle.std.proofs.Common.{◌≡◌, ◌*◌, true, cond, ◌&&◌, sym, ap, ◌∙◌}
use Rattle.std.specs.Result.{is_err}
use Rattle.sheet.specs.Sheets.{accepts, blocked, sheet_chart}
use Rattle.sheet.proofs.Cells.{accepted, as_many}
use Rattle.sheet.proofs.Sheet.new.Goals as goal

pub returns : goal.returns
returns c =
    let w = c.args.width in
    let h = c.args.height in
    let cells = c.args.cells.now in
    let a : accepts w h cells ≡ true = accepted w h cells (ap is_err (sym c.check_sheet.ensures) ∙ sym c.is_err.ensures.value ∙ c.if-is_err.false) in
    record {
      width = sym (ap (λ b. cond b w 0) a);
      height = sym (ap (λ b. cond b h 0) a);
      size = c.places_of.ensures.size ∙ as_many w h cells a ∙ sym (ap (λ b. cond b (w * h) 0) a);
      shut = c.places_of.ensures.shut ∙ sym (ap (λ b k. b && blocked cells k) a);
      chart = sym (ap (λ b. sheet_chart (cond b w 0) (cond b h 0)) a);
    }
