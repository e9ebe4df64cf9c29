use Rattle.std.proofs.Common.{ap, ◌∙◌, rules}
use borrow.Author.Tests.{tests}
use Rattle.std.specs.List.{find}
use Rattle.std.proofs.lemmas.Iterator.{YieldsList-from_slice}
use Rattle.std.proofs.lemmas.Iterator.Search.{find_from_yields_List}
use Rattle.sheet.specs.declared.steps.Step.{Step}
use Rattle.sheet.specs.Steps.{step_to, is_place, neighbour_of}
use Rattle.sheet.proofs.Sheet.step_to.Goals as goal

pub returns : goal.returns
unfolding step_to
returns c =
    let p = λ (s : Step). is_place (neighbour_of c.args.self.now.width c.args.self.now.height c.args.from s.to) c.args.to in
    c.copied.ensures ∙ find_from_yields_List p _ _ c.find.result c.find.ensures.ran (YieldsList-from_slice c.steps.result (cc)) (λ x b q k. search (rules, tests)) ∙ ap (find p) c.steps.ensures
