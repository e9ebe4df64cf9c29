use Rattle.std.proofs.Common.{◌≡◌, ℕ, ◌+◌, ◌<◌, is_some, sym, ap, ◌∙◌, subst, ⊎_elim, arith}
use Rattle.std.proofs.lemmas.Bool.{true≢false, cases_lt}
use Rattle.levelling.specs.declared.book.Book.{Book}
use Rattle.levelling.specs.Meaning.{meaning}
use Rattle.levelling.specs.Begun.{RowWritten, enters}
use Rattle.levelling.proofs.Begun.{way-entered, none_entered}
use Rattle.levelling.proofs.start.enter_ways_from.Goals as goal
use Rattle.levelling.proofs.start.enter_ways_from.Goals.{in-Some, in_default}

pub loop-to-preserved : goal.loop-to-preserved
loop-to-preserved g c =
    let k = g.G.C.Cost in
    let ground = c.args.ground.now in
    let laws = g.G.Ground.laws ground in
    let way = g.G.Ground.chart ground (g.G.Ground.shuts ground) in
    let a = c.args.from in
    let i = c.loop-to.to in
    let old = meaning k c.args.book.now in
    let mid = meaning k c.loop-to.book in
    let P : Book g.row.G-C.Denot → Type 0 = λ b. RowWritten (enters way a) (i + 1) a old (meaning k b) in
    elim c.match-way.branch [
      | in-Some w ↦
          let on : a < g.G.Ground.size ground = ⊎_elim (λ h. h) (λ h. absurd (true≢false (ap is_some (w.in-Some.ensures.is ∙ laws.within _ a i h)))) (cases_lt a _) in
          subst P (sym w.book-is)
          (way-entered a i (omega (arith, laws.few)) (omega (arith, laws.few, c.size-to-end.ensures)) old mid way w.in-Some.cost (sym w.in-Some.ensures.is) c.loop-to.invariant _
          w.keep_way.ensures)
      | in_default w ↦ subst P (sym w.book-is) (none_entered a i old mid way (sym w.in_default.ensures.is) c.loop-to.invariant)
    ]

pub returns : goal.returns
returns g c =
    let ground = c.args.ground.now in
    let way = g.G.Ground.chart ground (g.G.Ground.shuts ground) in
    let all : c.loop-to.to ≡ g.G.Ground.size ground = omega (arith, c.size-to-end.ensures) in
    subst (λ (n : ℕ). RowWritten (enters way c.args.from) n c.args.from (meaning g.G.C.Cost c.args.book.now) (meaning g.G.C.Cost c.loop-to.book))
    all c.loop-to.invariant
