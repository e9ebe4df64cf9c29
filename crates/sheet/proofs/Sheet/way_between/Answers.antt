use Rattle.std.proofs.Common.{Bool, ap, ◌∙◌}
use Rattle.sheet.specs.declared.steps.Offset.{Offset}
use Rattle.ground.specs.Marks.{free_in}
use Rattle.sheet.specs.SheetLaws.{chart_fair}
use Rattle.sheet.specs.Steps.{step_way, free_at, neighbour_of}
use Rattle.sheet.proofs.SheetWays.{by-steps}
use Rattle.sheet.proofs.Sheet.way_between.Goals as goal

pub returns-in_err-step : goal.returns-in_err-step
returns-in_err-step c =
    let g = c.args.self.now in
    let free : Offset → Bool = λ by. free_at (free_in g.places) (neighbour_of g.width g.height c.args.from by) in
    record {
      is = c.from_residual.ensures ∙ ap (step_way free) c.in_err-step.ensures ∙ by-steps g c.args.from c.args.to;
      fair = chart_fair g.width g.height;
    }

pub returns : goal.returns
returns c =
    let g = c.args.self.now in
    let free : Offset → Bool = λ by. free_at (free_in g.places) (neighbour_of g.width g.height c.args.from by) in
    record {
      is = c.step_cost.ensures ∙ ap (step_way free) c.in_ok-step.ensures ∙ by-steps g c.args.from c.args.to;
      fair = chart_fair g.width g.height;
    }
