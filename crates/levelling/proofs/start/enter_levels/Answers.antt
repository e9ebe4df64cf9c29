use Rattle.std.proofs.Common.{◌≡◌, ℕ, cond, sym, ap, ◌∙◌, subst, arith}
use Rattle.levelling.specs.Meaning.{meaning}
use Rattle.levelling.specs.Begun.{LevelsEntered}
use Rattle.levelling.proofs.Begun.{level-entered}
use Rattle.levelling.proofs.start.enter_levels.Goals as goal
use Rattle.levelling.proofs.start.enter_levels.Goals.{then-is_shut, else-is_shut}

pub loop-place-preserved : goal.loop-place-preserved
loop-place-preserved g c =
    let ground = c.args.ground.now in
    let shut = g.G.Ground.shuts ground in
    let i = c.loop-place.place in
    let level : c.if-is_shut.set_level ≡ cond (shut i) 0 1 = elim c.if-is_shut.branch [
      | then-is_shut w ↦ w.set_level-is ∙ ap (λ t. cond t 0 1) (sym w.if-is_shut.true ∙ c.is_shut.ensures)
      | else-is_shut w ↦ w.set_level-is ∙ ap (λ t. cond t 0 1) (sym w.if-is_shut.false ∙ c.is_shut.ensures)
    ] in
    level-entered shut i c.if-is_shut.set_level (omega (arith, (g.G.Ground.laws ground).few, c.size-place-end.ensures)) (meaning g.G.C.Cost c.args.book.now)
    (meaning g.G.C.Cost c.loop-place.book) c.loop-place.invariant level _ c.set_level.ensures

pub returns : goal.returns
returns g c =
    let ground = c.args.ground.now in
    let all : c.loop-place.place ≡ g.G.Ground.size ground = omega (arith, c.size-place-end.ensures) in
    subst (λ (n : ℕ). LevelsEntered n (g.G.Ground.shuts ground) (meaning g.G.C.Cost c.args.book.now) (meaning g.G.C.Cost c.loop-place.book))
    all c.loop-place.invariant
