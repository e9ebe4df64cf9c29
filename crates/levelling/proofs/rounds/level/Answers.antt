use Rattle.std.proofs.Common.{◌-◌, ◌≤◌, sym, ap, ◌∙◌, subst, arith}
use Rattle.hierarchy.specs.Lands.{land_of}
use Rattle.hierarchy.specs.Levels.{levelling, rounds}
use Rattle.levelling.proofs.Fits.{book_fits}
use Rattle.levelling.proofs.Going.{one-round, no_round, start-bounded}
use Rattle.levelling.proofs.rounds.level.Goals as goal

pub start-requires : goal.start-requires
start-requires g c = (book_fits _ _ g.met.G.C.Cost.narrow g.met.G.C.Cost.small, c.blank-book.ensures)

pub loop-lower-init : goal.loop-lower-init
loop-lower-init g c =
    let land = land_of g.G.C.Cost g.G.Ground c.args.ground.now in
    let rule = g.R.Rule.pairs c.args.rule.now in
    let levels = c.from-lower-end.result in (
      ap (rounds land rule (levels - 1) 1) c.start.ensures,
      λ x. subst (λ n. n ≤ 1) (ap (λ b. b.level x) (sym c.start.ensures)) (start-bounded land rule levels x),
    )

pub invariant_of-round : goal.invariant_of-round
invariant_of-round g c =
    let few = (g.G.Ground.laws c.args.ground.now).few in
    record {
      few = omega (arith, c.size.ensures, few);
      low = (omega (arith, c.loop-lower.auto), omega (arith, c.from-lower-end.ensures, c.args.levels.range.1));
    }

pub run-requires : goal.run-requires
run-requires g c = (book_fits _ _ g.met.G.C.Cost.narrow g.met.G.C.Cost.small, c.loop-lower.invariant.1)

pub loop-lower-preserved : goal.loop-lower-preserved
loop-lower-preserved g c =
    let land = land_of g.G.C.Cost g.G.Ground c.args.ground.now in (
      one-round land (g.R.Rule.pairs c.args.rule.now) c.from-lower-end.result c.loop-lower.lower _ _ (omega arith)
          (c.run.ensures.is land (sym c.size.ensures)) c.loop-lower.invariant.0,
      c.run.ensures.bounded,
    )

pub returns : goal.returns
returns g c =
    let land = land_of g.G.C.Cost g.G.Ground c.args.ground.now in
    let rule = g.R.Rule.pairs c.args.rule.now in
    no_round land rule c.from-lower-end.result c.loop-lower.lower _ (omega arith) c.loop-lower.invariant.0 ∙ ap (levelling land rule) c.from-lower-end.ensures
