use Rattle.std.proofs.Common.{length, refl, sym, subst, ◌∙◌, rules, arith}
use Rattle.hierarchy.specs.Kinds.{kind_of}
use Rattle.hierarchy.proofs.SearchSteps.{Sound}
use Rattle.frontier.specs.Fronts.{Inside}
use Rattle.frontier.specs.Searching.{size, front}
use Rattle.frontier.proofs.Turning.{fewer_left}
use Rattle.levelling.proofs.Reaching.{begun, goes_on, none_waits, too_dear, reached_at_end}
use Rattle.levelling.proofs.reach.reach_in.Goals as goal

pub loop-place-init : goal.loop-place-init
loop-place-init g c =
    let r = c.begin-frontier.result in
    record { same_reference = refl; same_size = refl; sound = begun g.S.C.Cost _ (size r) c.args.start (omega arith) _ c.begin-frontier.ensures.front }

pub loop-place-smaller : goal.loop-place-smaller
loop-place-smaller g c =
    let k = g.S.C.Cost in
    let frontier = c.loop-place.frontier in
    fewer_left {K = kind_of k} (g.S.Steps.step c.args.graph.now) (size frontier) c.in-Some.place (front k frontier) _
    c.in-Some.ensures.is c.settle.ensures.front _ c.settle.ensures.size

pub loop-place-preserved : goal.loop-place-preserved
loop-place-preserved g c =
    let k = g.S.C.Cost in
    let step = g.S.Steps.step c.args.graph.now in
    let frontier = c.loop-place.frontier in
    let after = front k c.settle.new.self in
    let inv = c.loop-place.invariant in
    let inside = subst (λ n. Inside n step) (sym (inv.same_size ∙ c.begin-frontier.ensures.size)) c.requires.inside in
    record {
      same_reference = c.settle.ensures.same_reference ∙ inv.same_reference;
      same_size = c.settle.ensures.size ∙ inv.same_size;
      sound = subst (λ n. Sound {K = kind_of k} step n c.args.start after) (sym c.settle.ensures.size)
          (goes_on k step (size frontier) c.args.start inside (front k frontier) after c.in-Some.place c.in-Some.ensures.is c.settle.ensures.front inv.sound);
    }

pub returns-then-is_less : goal.returns-then-is_less
returns-then-is_less g c =
    let k = g.S.C.Cost in
    let step = g.S.Steps.step c.args.graph.now in
    let frontier = c.loop-place.frontier in
    let inv = c.loop-place.invariant in
    reached_at_end k step c.args.start (size frontier) (length c.args.table.now) (inv.same_size ∙ c.begin-frontier.ensures.size) c.args.bound frontier.table.now
    (too_dear k step (size frontier) c.args.start _ _ _ inv.sound c.in-Some.place c.in-Some.ensures.is c.cost.result c.cost.ensures (sym c.if-is_less.ensures))
    _ (search rules)

pub returns : goal.returns
returns g c =
    let k = g.S.C.Cost in
    let step = g.S.Steps.step c.args.graph.now in
    let frontier = c.loop-place.frontier in
    let inv = c.loop-place.invariant in
    reached_at_end k step c.args.start (size frontier) (length c.args.table.now) (inv.same_size ∙ c.begin-frontier.ensures.size) c.args.bound frontier.table.now
    (none_waits k step (size frontier) c.args.start _ _ _ inv.sound c.in_default.ensures.is)
    _ (search rules)
