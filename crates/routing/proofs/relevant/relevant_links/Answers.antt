use Rattle.std.proofs.Common.{◌≡◌, ℕ, false, sym, subst, arith, rules}
use Rattle.hierarchy.specs.Searches.{links}
use Rattle.levelling.specs.Meaning.{meaning}
use Rattle.routing.specs.Climbed.{MarksClimbs}
use Rattle.routing.specs.Narrowed.{narrowed, marked}
use Rattle.routing.proofs.Narrowing.{narrowed-links}
use Rattle.routing.proofs.Tabled.{from_each}
use Rattle.routing.proofs.relevant.relevant_links.Goals as goal

pub returns : goal.returns
returns g c land e =
    let book = meaning g.C.Cost c.args.book.now in
    let first = c.climb-first.result in
    let second = c.climb-second.result in
    let marks = c.from_fn-marks.result in
    subst (λ (n : ℕ). narrowed n book marks ≡ links land book c.args.top c.args.from c.args.to) e
    (narrowed-links land book c.args.top c.args.from c.args.to first second marks
    (subst (λ (n : ℕ). MarksClimbs n book c.args.from first) (sym e) c.climb-first.ensures)
    (subst (λ (n : ℕ). MarksClimbs n book c.args.to second) (sym e) c.climb-second.ensures)
    (λ x h. from_each _ _ (marked book c.args.top c.args.from c.args.to first second) marks false 256 c.from_fn-marks.ensures.items
    (λ j y q l r. search rules) x (omega (arith, e))))
