use Rattle.std.proofs.Common.{arith}
use Rattle.frontier.proofs.Beginning.{begun}
use Rattle.frontier.proofs.begin_at.Goals as goal

pub returns : goal.returns
returns g c =
    let both = begun g.C.Cost c.args.size c.args.start (omega arith) c.args.table.now c.clear.new.table c.reach.new.table
    c.args.waiting.now c.clear.new.waiting c.reach.new.waiting (omega arith) (omega arith)
    c.clear.ensures.table c.clear.ensures.waiting c.zero.result c.zero.ensures c.reach.ensures.table c.reach.ensures.waiting in
    record { front = both.0; rest = both.1 }
