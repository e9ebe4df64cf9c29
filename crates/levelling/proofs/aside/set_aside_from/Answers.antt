use Rattle.std.proofs.Common.{◌≡◌, ℕ, ◌+◌, sym, ◌∙◌, subst, arith}
use Rattle.levelling.specs.declared.book.Book.{Book}
use Rattle.levelling.specs.Meaning.{meaning}
use Rattle.levelling.specs.Begun.{RowWritten}
use Rattle.levelling.specs.Beaten.{leaves}
use Rattle.levelling.proofs.Begun.{way_left, none_left}
use Rattle.levelling.proofs.aside.set_aside_from.Goals as goal
use Rattle.levelling.proofs.aside.set_aside_from.Goals.{then-marks-to, else-marks-to}

pub loop-to-preserved : goal.loop-to-preserved
loop-to-preserved g c =
    let k = g.C.Cost in
    let a = c.args.from in
    let i = c.loop-to.to in
    let marks = c.args.marks.now in
    let old = meaning k c.args.book.now in
    let mid = meaning k c.loop-to.book in
    let P : Book g.row.C.Denot → Type 0 = λ b. RowWritten (leaves marks) (i + 1) a old (meaning k b) in
    elim c.if-marks-to.branch [
      | then-marks-to w ↦ subst P (sym w.book-is)
          (way_left a i (omega arith) (omega arith) old mid marks w.if-marks-to.true (c.loop-to.invariant.shortcuts ∙ c.requires.1.1) c.loop-to.invariant _ w.set_aside.ensures)
      | else-marks-to w ↦ subst P (sym w.book-is) (none_left a i old mid marks w.if-marks-to.false c.loop-to.invariant)
    ]

pub returns : goal.returns
returns g c =
    let all : c.loop-to.to ≡ c.args.size = omega arith in
    subst (λ (n : ℕ). RowWritten (leaves c.args.marks.now) n c.args.from (meaning g.C.Cost c.args.book.now) (meaning g.C.Cost c.loop-to.book))
    all c.loop-to.invariant
