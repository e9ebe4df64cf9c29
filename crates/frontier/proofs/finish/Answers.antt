use Rattle.std.proofs.Common.{◌≡◌, ap, ◌∙◌, arith}
use Rattle.hierarchy.specs.Searches.{table_after}
use Rattle.frontier.specs.Fronts.{front_of}
use Rattle.frontier.proofs.Finishing.{finish_more}
use Rattle.frontier.proofs.finish.Goals as goal

pub loop-place-preserved : goal.loop-place-preserved
loop-place-preserved g c = λ waiting.
    finish_more g.C.Cost c.args.size c.loop-place.place c.args.table.now waiting (omega arith) (omega arith)
    c.loop-place.table (c.loop-place.invariant waiting) c.index-table-place.result c.finished.result c.index-table-place.is c.finished.ensures

pub returns : goal.returns
returns g c = λ waiting.
    let t = c.args.table.now in
    let all : c.loop-place.place ≡ c.args.size = omega arith in
    c.loop-place.invariant waiting ∙ ap (λ m. table_after (front_of g.C.Cost c.args.size t waiting) m t) all
