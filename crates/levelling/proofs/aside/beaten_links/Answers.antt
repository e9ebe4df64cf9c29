use Rattle.std.proofs.Common.{[], get_or, set, sym, ◌∙◌, subst, arith, below_more}
use Rattle.std.proofs.lemmas.List.{length-set, get_or-set_same, get_or-set_other}
use Rattle.levelling.specs.Meaning.{meaning}
use Rattle.levelling.specs.Beaten.{MarksBeaten}
use Rattle.levelling.proofs.aside.beaten_links.Goals as goal

pub loop-from-preserved : goal.loop-from-preserved
loop-from-preserved g c =
    let links = c.args.links.now in
    let rows = c.loop-from.beaten in
    let i = c.loop-from.from in
    let row = c.beaten_from.result in
    let inv = c.loop-from.invariant in (
      length-set rows i row ∙ inv.0,
      below_more (λ a. MarksBeaten links.size (meaning g.C.Cost links.book.now) a (get_or (set rows i row) a [])) i
          (λ a h. subst (MarksBeaten links.size (meaning g.C.Cost links.book.now) a) (sym (get_or-set_other rows i a row [] (λ s. omega arith))) (inv.1 a h))
          (subst (MarksBeaten links.size (meaning g.C.Cost links.book.now) i) (sym (get_or-set_same rows i row [] (omega arith))) c.beaten_from.ensures),
    )
