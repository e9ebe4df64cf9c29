use Rattle.frontier.proofs.Settling.{no_offer, refused}
use Rattle.frontier.proofs.offer.Goals as goal

pub returns-in_default : goal.returns-in_default
returns-in_default g c =
    let same = no_offer g.S.C.Cost c.args.place c.args.other c.args.table.now c.args.waiting.now c.args.cost _ c.in_default.ensures in
    record { table = same.0; waiting = same.1 }

pub returns-else-accepts : goal.returns-else-accepts
returns-else-accepts g c =
    let same = refused g.S.C.Cost c.args.place c.args.other c.args.table.now c.args.waiting.now c.args.cost _
    c.in-Some.step c.plus-sum.result c.in-Some.ensures c.plus-sum.ensures c.if-accepts.ensures in
    record { table = same.0; waiting = same.1 }
