use Rattle.std.proofs.Common.{ℕ, ◌+◌, ◌≤◌, false, None, sym, refl, ap, ◌∙◌, subst, arith}
use Rattle.hierarchy.specs.Kinds.{kind_of}
use Rattle.hierarchy.specs.Lands.{Land}
use Rattle.hierarchy.specs.Shortest.{below}
use Rattle.hierarchy.specs.Books.{Book as Meant}
use Rattle.hierarchy.specs.Levels.{visit_each}
use Rattle.levelling.specs.declared.book.Book.{Book}
use Rattle.levelling.specs.Meaning.{meaning}
use Rattle.levelling.proofs.Going.{VisitsLeft, visited, passed, all_visited, visit-bounded, raise-bounded}
use Rattle.levelling.proofs.rounds.Round.run.Goals as goal
use Rattle.levelling.proofs.rounds.Round.run.Goals.{then-level-self, else-level-self}

pub loop-place-init : goal.loop-place-init
loop-place-init g c = (
  λ land e. refl,
  λ x. subst (λ n. n ≤ c.args.self.now.lower + 1) (ap (λ b. b.level x) (sym c.raise.ensures)) (raise-bounded c.args.self.now.lower (meaning g.C.Cost c.args.book.now).level c.requires.bounded x),
)

pub loop-place-preserved : goal.loop-place-preserved
loop-place-preserved g c =
    let k = g.C.Cost in
    let rule = g.R.Rule.pairs c.args.self.now.rule.now in
    let i = c.args.self.now.lower in
    let v = c.loop-place.place in
    let now = meaning k c.loop-place.book in
    let inv = c.loop-place.invariant in
    let Bounded : Book g.row.C.Denot → Type 0 = λ b. (x : ℕ) → (meaning k b).level x ≤ i + 1 in
    let whole : Land (kind_of k) → Meant (kind_of k) = λ land. visit_each land rule i (below land.size) (meaning k c.raise.new.book) in
    let any : Land (kind_of k) = record { size = c.args.self.now.size; free = λ x. false; way = λ x y. None } in
    elim c.if-level-self.branch [
      | then-level-self w ↦ (
        λ land e. subst (λ b. VisitsLeft land rule i (v + 1) (meaning k b) (whole land)) (sym w.book-is)
            (visited land rule i v now _ _ (omega (arith, e)) (sym c.level.ensures ∙ w.if-level-self.true) (w.visit.ensures land e) (inv.0 land e)),
        subst Bounded (sym w.book-is) (λ x. subst (λ n. n ≤ i + 1) (ap (λ b. b.level x) (sym (w.visit.ensures any refl))) (visit-bounded any rule i now v inv.1 x)),
      )
      | else-level-self w ↦ (
        λ land e. subst (λ b. VisitsLeft land rule i (v + 1) (meaning k b) (whole land)) (sym w.book-is)
            (passed land rule i v now _ (omega (arith, e)) (λ h. w.if-level-self.false (c.level.ensures ∙ h)) (inv.0 land e)),
        subst Bounded (sym w.book-is) inv.1,
      )
    ]

pub returns-clause-is : goal.returns-clause-is
returns-clause-is g c land e =
    all_visited land (g.R.Rule.pairs c.args.self.now.rule.now) c.args.self.now.lower c.loop-place.place _ _ (omega (arith, e)) (c.loop-place.invariant.0 land e)
    ∙ ap (visit_each land (g.R.Rule.pairs c.args.self.now.rule.now) c.args.self.now.lower (below land.size)) c.raise.ensures
