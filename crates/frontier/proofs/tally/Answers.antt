use Rattle.std.proofs.Common.{sym, ◌∙◌, arith}
use Rattle.frontier.specs.Fronts.{blank}
use Rattle.frontier.proofs.Tallying.{counted}
use Rattle.frontier.proofs.tally.Goals as goal

pub returns : goal.returns
returns g c = λ _.
    let n = c.args.size in
    c.settled_in.ensures ∙ sym (counted (λ r. r.settled) c.args.table.now (blank g.C.Cost) n n (omega arith) c.requires)
