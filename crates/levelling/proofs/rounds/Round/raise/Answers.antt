use Rattle.std.proofs.Common.{◌+◌, sym, ◌∙◌, subst, arith}
use Rattle.std.proofs.lemmas.List.{get_or_past}
use Rattle.levelling.specs.declared.book.Book.{Book}
use Rattle.levelling.specs.Meaning.{meaning}
use Rattle.levelling.proofs.Going.{RaisedTo, raises, leaves_be, all_raised}
use Rattle.levelling.proofs.rounds.Round.raise.Goals as goal
use Rattle.levelling.proofs.rounds.Round.raise.Goals.{then-level-self, else-level-self}

pub loop-place-preserved : goal.loop-place-preserved
loop-place-preserved g c =
    let k = g.C.Cost in
    let old = meaning k c.args.book.now in
    let i = c.args.self.now.lower in
    let p = c.loop-place.place in
    let now = meaning k c.loop-place.book in
    let P : Book g.row.C.Denot → Type 0 = λ b. RaisedTo i old (p + 1) (meaning k b) in
    elim c.if-level-self.branch [
      | then-level-self w ↦ subst P (sym w.book-is) (raises i old p now c.loop-place.invariant (omega arith) (sym c.level.ensures ∙ w.if-level-self.true) _ w.set_level.ensures)
      | else-level-self w ↦ subst P (sym w.book-is) (leaves_be i old p now c.loop-place.invariant (λ e. w.if-level-self.false (c.level.ensures ∙ e)))
    ]

pub returns : goal.returns
returns g c =
    let book = c.args.book.now in
    all_raised c.args.self.now.lower (meaning g.C.Cost book) c.args.self.now.low.0 (λ x h. get_or_past book.levels x 0 (omega arith)) c.loop-place.place (omega arith) _ c.loop-place.invariant
