use Rattle.std.proofs.Common.{◌≡◌, ℕ, true, false, get_or, is_some, Option, ap, ◌∙◌, below_more}
use Rattle.std.proofs.lemmas.Bool.{both_ways}
use Rattle.levelling.specs.Meaning.{meaning}
use Rattle.levelling.specs.Near.{by_links}
use Rattle.levelling.specs.Priced.{at_most, dearer}
use Rattle.levelling.proofs.Dearest.{dearer_old, dearer_new}
use Rattle.levelling.proofs.visit.Visit.dearest.Goals as goal
use Rattle.levelling.proofs.visit.Visit.dearest.Goals.{then-marks-second, else-marks-second}

pub loop-second-preserved : goal.loop-second-preserved
loop-second-preserved g c =
    let k = g.C.Cost in
    let self = c.args.self.now in
    let sum = by_links self.links.size (meaning k self.links.book.now) self.middle c.args.first in
    let marks = c.args.marks.now in
    let i = c.loop-second.second in
    let Most : Option g.row.C.Denot → ℕ → Type 0 = λ most b. get_or marks b false ≡ true → is_some (sum b) ≡ true → at_most k (sum b) most ≡ true in
    elim c.if-marks-second.branch [
      | then-marks-second w ↦
          let more = w.most-is ∙ w.dearer-most.ensures ∙ ap (dearer k c.loop-second.most) w.by_way_of.ensures in
          below_more (Most c.if-marks-second.most) i
          (λ b h m s. ap (at_most k (sum b)) more ∙ dearer_old k (sum b) c.loop-second.most (sum i) (c.loop-second.invariant b h m s))
          (λ m s. ap (at_most k (sum i)) more ∙ dearer_new k c.loop-second.most (sum i) s)
      | else-marks-second w ↦
          below_more (Most c.if-marks-second.most) i (λ b h m s. ap (at_most k (sum b)) w.most-is ∙ c.loop-second.invariant b h m s)
          (λ m s. absurd (both_ways _ w.if-marks-second.false m))
    ]
