use Rattle.std.proofs.Common.{◌≡◌, ◌<◌, Bool, length, get_or, set, arith}
use Rattle.std.proofs.lemmas.List.{get_or_default, length-set}
use Rattle.frontier.specs.Fronts.{blank}
use Rattle.frontier.proofs.Settling.{records_more, flags_more, settled}
use Rattle.frontier.proofs.settle.Goals as goal

pub loop-other-preserved : goal.loop-other-preserved
loop-other-preserved g c =
    let k = g.S.C.Cost in
    let v = c.args.place in
    let step = g.S.Steps.step c.args.graph.now v in
    let x = c.loop-other.other in
    let t : x < length c.args.table.now = omega arith in
    let w : x < length c.args.waiting.now = omega arith in
    let kept : (b : Bool) → x < length (set c.args.waiting.now v b) = λ b. simp length-set w in
    let inv = c.loop-other.invariant in (
      records_more k step v _ _ _ x (simp length-set t) (kept _) _ _ inv.0 inv.1 _ c.offer.ensures.table,
      flags_more k step v _ _ _ x (simp length-set t) (kept _) _ _ inv.0 inv.1 _ c.offer.ensures.waiting,
    )

pub returns : goal.returns
returns g c =
    let k = g.S.C.Cost in
    let t = c.args.table.now in
    let w = c.args.waiting.now in
    let v = c.args.place in
    let n = c.args.size in
    let step = g.S.Steps.step c.args.graph.now in
    let r = get_or t v c.index-table-place.result in
    let s = get_or t v c.index-table-place-2.result in
    let er = get_or_default t v c.index-table-place.result (blank k) (omega arith) in
    let es = get_or_default t v c.index-table-place-2.result (blank k) (omega arith) in
    let all : c.loop-other.other ≡ n = omega arith in
    let inv = c.loop-other.invariant in
    let both = settled k n v step t w (omega arith) (omega arith) (omega arith) c.requires.waits.1 c.requires.inside
    c.loop-other.other r s c.loop-other.table c.loop-other.waiting all er es inv.0 inv.1 in
    record { front = both.0; rest = both.1 }
