use Rattle.std.proofs.Common.{sym, ap, ◌∙◌, rules, arith}
use borrow.Author.Tests.{tests}
use Rattle.std.specs.Result.{is_err}
use Rattle.std.proofs.lemmas.Iterator.{YieldsList-from_slice}
use Rattle.std.proofs.lemmas.Iterator.Search.{position_from_yields_List}
use Rattle.ground.specs.Refusals.{outcome}
use Rattle.sheet.specs.Sheets.{decoded}
use Rattle.sheet.proofs.Cells.{by_search}
use Rattle.sheet.proofs.check.check_sheet.Goals as goal

pub returns-in-Some : goal.returns-in-Some
returns-in-Some c =
    let cells = c.args.cells.now in
    let p = position_from_yields_List (λ b. is_err (decoded b)) _ _ c.position.result c.position.ensures.ran (YieldsList-from_slice cells (cc)) (λ x b q k. search (rules, tests)) in
    sym (ap outcome (by_search cells c.args.width c.args.height c.in_ok-count.count _ (sym c.in_ok-count.ensures.ok_part ∙ c.cells_of.ensures) (omega arith) (sym c.in-Some.is ∙ p)))

pub returns-in-None : goal.returns-in-None
returns-in-None c =
    let cells = c.args.cells.now in
    let p = position_from_yields_List (λ b. is_err (decoded b)) _ _ c.position.result c.position.ensures.ran (YieldsList-from_slice cells (cc)) (λ x b q k. search (rules, tests)) in
    sym (ap outcome (by_search cells c.args.width c.args.height c.in_ok-count.count _ (sym c.in_ok-count.ensures.ok_part ∙ c.cells_of.ensures) (omega arith) (sym c.in-None.is ∙ p)))
