use Rattle.std.proofs.Common.{refl, sym, ap, ◌∙◌}
use Rattle.hierarchy.specs.Kinds.{kind_of}
use Rattle.hierarchy.specs.Searches.{nearest, search_on}
use Rattle.frontier.specs.Searching.{size, front}
use Rattle.frontier.proofs.Turning.{fewer_left}
use Rattle.routing.proofs.Turns.{begun, goal_settled, none_waits, turn_more}
use Rattle.routing.proofs.find.settle_until.Goals as goal

pub loop-frontier-init : goal.loop-frontier-init
loop-frontier-init g c =
    let k = g.S.C.Cost in
    record {
      same_reference = refl;
      same_size = refl;
      left = begun {K = kind_of k} (g.S.Steps.step c.args.graph.now) (size c.args.frontier.now) c.args.goal (front k c.args.frontier.now);
    }

pub loop-frontier-smaller : goal.loop-frontier-smaller
loop-frontier-smaller g c =
    let k = g.S.C.Cost in
    let frontier = c.loop-frontier.frontier in
    fewer_left {K = kind_of k} (g.S.Steps.step c.args.graph.now) (size frontier) c.in-Some.place (front k frontier) _
    c.in-Some.ensures.is c.settle.ensures.front _ c.settle.ensures.size

pub loop-frontier-preserved : goal.loop-frontier-preserved
loop-frontier-preserved g c =
    let k = g.S.C.Cost in
    let n = size c.args.frontier.now in
    let now = front k c.loop-frontier.frontier in
    let step = g.S.Steps.step c.args.graph.now in
    let whole = search_on {K = kind_of k} step n c.args.goal n (front k c.args.frontier.now) in
    let inv = c.loop-frontier.invariant in
    record {
      same_reference = c.settle.ensures.same_reference ∙ inv.same_reference;
      same_size = c.settle.ensures.size ∙ inv.same_size;
      left = turn_more {K = kind_of k} step n c.args.goal now whole inv.left (sym c.loop-frontier-test.ensures)
          c.in-Some.place (c.in-Some.ensures.is ∙ ap (nearest now) inv.same_size) _ c.settle.ensures.front;
    }

pub returns-in_default-clause-front : goal.returns-in_default-clause-front
returns-in_default-clause-front g c =
    let k = g.S.C.Cost in
    let now = front k c.loop-frontier.frontier in
    let inv = c.loop-frontier.invariant in
    none_waits {K = kind_of k} (g.S.Steps.step c.args.graph.now) (size c.args.frontier.now) c.args.goal now _ inv.left
    (sym c.loop-frontier-test.ensures) (c.in_default.ensures.is ∙ ap (nearest now) inv.same_size)

pub returns-clause-front : goal.returns-clause-front
returns-clause-front g c =
    let k = g.S.C.Cost in
    goal_settled {K = kind_of k} (g.S.Steps.step c.args.graph.now) (size c.args.frontier.now) c.args.goal (front k c.loop-frontier.frontier) _
    c.loop-frontier.invariant.left (sym c.loop-frontier-test.ensures)
