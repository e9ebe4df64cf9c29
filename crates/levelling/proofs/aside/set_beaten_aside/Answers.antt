use Rattle.std.proofs.Common.{◌≡◌, ℕ, [], get_or, subst, arith}
use Rattle.levelling.specs.Meaning.{meaning}
use Rattle.levelling.specs.Begun.{RowsWritten}
use Rattle.levelling.specs.Beaten.{leaves}
use Rattle.levelling.proofs.Rewriting.{rows_more}
use Rattle.levelling.proofs.Beaten.{beaten_left}
use Rattle.levelling.proofs.aside.set_beaten_aside.Goals as goal

pub loop-from-preserved : goal.loop-from-preserved
loop-from-preserved g c =
    rows_more (λ a. leaves (get_or c.beaten_links-beaten.result a [])) c.args.size (meaning g.C.Cost c.args.book.now) c.loop-from.from _ _ c.loop-from.invariant c.set_aside_from.ensures

pub returns : goal.returns
returns g c =
    let n = c.args.size in
    let marks = c.beaten_links-beaten.result in
    let old = meaning g.C.Cost c.args.book.now in
    let new = meaning g.C.Cost c.loop-from.book in
    let all : c.loop-from.from ≡ n = omega arith in
    beaten_left n old new marks c.beaten_links-beaten.ensures (subst (λ (i : ℕ). RowsWritten (λ a. leaves (get_or marks a [])) i n old new) all c.loop-from.invariant)
