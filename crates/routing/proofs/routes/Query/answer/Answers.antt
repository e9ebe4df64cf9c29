use Rattle.std.proofs.Common.{sym, ◌∙◌}
use Rattle.routing.proofs.Searching.{leads_inside, near, answers_none, answers_long, answers_handed}
use Rattle.routing.proofs.routes.Query.answer.Goals as goal

pub find-requires : goal.find-requires
find-requires g c =
    let q = c.args.self.now in
    record { rows = (q.few, c.requires); ends = q.ends; inside = leads_inside g.C.Cost q _ c.relevant_links-links.ensures }

pub returns-then-not-find : goal.returns-then-not-find
returns-then-not-find g c land e =
    answers_none g.C.Cost c.args.self.now _ c.relevant_links-links.ensures _ _ c.find.ensures.table land e c.args.list.now
    (sym c.find.ensures.found ∙ c.if-not-find.true)

pub lay_found-requires : goal.lay_found-requires
lay_found-requires g c =
    near g.C.Cost c.args.self.now _ c.relevant_links-links.ensures _ _ c.find.ensures.table (sym c.find.ensures.found ∙ c.if-not-find.false)

pub returns-in_default : goal.returns-in_default
returns-in_default g c land e =
    answers_long g.C.Cost c.args.self.now _ c.relevant_links-links.ensures _ _ c.find.ensures.table land e c.args.list.now
    (sym c.find.ensures.found ∙ c.if-not-find.false) c.in_default.ensures

pub returns : goal.returns
returns g c land e =
    answers_handed g.C.Cost c.args.self.now _ c.relevant_links-links.ensures _ _ c.find.ensures.table land e c.args.list.now
    (sym c.find.ensures.found ∙ c.if-not-find.false) c.in-Ok.laid c.in-Ok.ensures _ _ c.hand_over.ensures
