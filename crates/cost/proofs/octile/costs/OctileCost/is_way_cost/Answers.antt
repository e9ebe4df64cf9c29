use Rattle.std.proofs.Common.{◌≡◌, ◌∙◌, not, true, sym, ◌&&◌}
use Rattle.cost.specs.Octiles.{octile, zero_o, less_o}
use Rattle.cost.specs.OctileLaws.{less_weight, le_weight}
use Rattle.cost.proofs.octile.costs.OctileCost.is_way_cost.Goals as goal

pub returns-then-lt : goal.returns-then-lt
returns-then-lt c =
    let x = c.args.self in
    let more : true ≡ less_o zero_o x = sym c.if-lt.true ∙ (rw c.zero.ensures at c.lt.ensures) ∙ less_weight zero_o x in
    let most : c.le.result ≡ not (less_o (octile 65535 0) x) = (rw c.new.ensures at c.le.ensures) ∙ le_weight x (octile 65535 0) in
    λ i. more i && most i
