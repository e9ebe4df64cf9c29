use Rattle.std.proofs.Common.{◌≡◌, ◌+◌, true, false, cond, not, [], ◌∷◌, ◌++◌, is_some, sym, ap, ◌∙◌, subst, arith}
use Rattle.levelling.specs.Meaning.{meaning}
use Rattle.levelling.specs.Listed.{listed}
use Rattle.levelling.specs.Near.{over_links}
use Rattle.levelling.proofs.Visiting.{Outer, Inner, start, pass, enter, leave, take, stay_up, skip, finish}
use Rattle.levelling.proofs.visit.Visit.needed.Goals as goal
use Rattle.levelling.proofs.visit.Visit.needed.Goals.{else-needs-second-via-then-needs-second+else-is_none, else-needs-second-via-else-needs-second, then-near-first+else-loop-second-test, else-near-first}

pub loop-first-init : goal.loop-first-init
loop-first-init g c land e =
    let rule = g.R.Rule.pairs c.args.rule.now in
    subst (Outer g.C.Cost rule c.args.self.now land 0) (sym c.none-needed.ensures) (start g.C.Cost rule c.args.self.now land e)

pub loop-second-init : goal.loop-second-init
loop-second-init g c land e =
    let f = c.loop-first.first in
    enter g.C.Cost (g.R.Rule.pairs c.args.rule.now) c.args.self.now land f _ c.loop-first-test.true (sym (c.near-near.ensures f c.loop-first-test.true) ∙ c.if-near-first.true)
    (c.loop-first.invariant land e)

pub loop-second-preserved : goal.loop-second-preserved
loop-second-preserved g c land e =
    let k = g.C.Cost in
    let rule = g.R.Rule.pairs c.args.rule.now in
    let self = c.args.self.now in
    let f = c.loop-first.first in
    let s = c.loop-second.second in
    let found = listed c.loop-second.needed in
    let marks = c.needs_from-needs.result in
    elim c.else-needs-second.branch [
      | else-needs-second-via-then-needs-second+else-is_none w ↦
          let took : is_some w.take_pair.result ≡ true = w.is_none.ensures ∙ ap not w.if-is_none.false in
          subst (λ x. Inner k rule self land f (s + 1) (listed x)) (sym w.needed-is)
          (take k rule self land e f s found c.loop-second-test.true (omega (arith, c.loop-second.auto.second)) marks c.needs_from-needs.ensures w.if-needs-second.true (c.loop-second.invariant land e)
          (sym w.take_pair.ensures.is ∙ took) _
          (w.take_pair.ensures.after ∙ ap (λ t. cond t (found ++ (over_links k self.links.size (meaning k self.links.book.now) self.middle f s ∷ [])) found) took))
      | else-needs-second-via-else-needs-second w ↦
          subst (λ x. Inner k rule self land f (s + 1) (listed x)) (sym w.needed-is)
          (skip k rule self land e f s found c.loop-second-test.true (omega (arith, c.loop-second.auto.second)) marks c.needs_from-needs.ensures w.if-needs-second.false (c.loop-second.invariant land e))
    ]

pub loop-first-preserved : goal.loop-first-preserved
loop-first-preserved g c land e =
    let k = g.C.Cost in
    let rule = g.R.Rule.pairs c.args.rule.now in
    let self = c.args.self.now in
    let f = c.loop-first.first in
    elim c.if-near-first.branch [
      | then-near-first+else-loop-second-test w ↦
          subst (λ x. Outer k rule self land (f + 1) (listed x)) (sym w.needed-is)
          (leave k rule self land f w.loop-second.second _ w.loop-second-test.false (w.loop-second.invariant land e))
      | else-near-first w ↦
          subst (λ x. Outer k rule self land (f + 1) (listed x)) (sym w.needed-is)
          (pass k rule self land f _ c.loop-first-test.true (sym (c.near-near.ensures f c.loop-first-test.true) ∙ w.if-near-first.false) (c.loop-first.invariant land e))
    ]

pub returns-2 : goal.returns-2
returns-2 g c land e =
    let refused : is_some c.take_pair.result ≡ false = c.is_none.ensures ∙ ap not c.if-is_none.true in
    stay_up g.C.Cost (g.R.Rule.pairs c.args.rule.now) c.args.self.now land e c.loop-first.first c.loop-second.second _ c.loop-second-test.true (omega (arith, c.loop-second.auto.second))
    c.needs_from-needs.result c.needs_from-needs.ensures c.if-needs-second.true (c.loop-second.invariant land e) (sym c.take_pair.ensures.is ∙ refused)

pub returns : goal.returns
returns g c land e =
    finish g.C.Cost (g.R.Rule.pairs c.args.rule.now) c.args.self.now land e c.loop-first.first _ c.loop-first-test.false (c.loop-first.invariant land e)
