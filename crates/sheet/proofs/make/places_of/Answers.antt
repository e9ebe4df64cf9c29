use Rattle.std.proofs.Common.{◌≡◌, ℕ, ◌+◌, true, false, ◌&&◌, ltb, length, sym, ap, ◌∙◌, subst, arith}
use Rattle.std.proofs.lemmas.Bool.{and_left, le-ltb}
use Rattle.ground.specs.declared.places.Places.{Places}
use Rattle.ground.specs.Marks.{size_in, shut_in}
use Rattle.sheet.specs.Sheets.{blocked}
use Rattle.sheet.proofs.Marking.{none_at, shut_at}
use Rattle.sheet.proofs.make.places_of.Goals as goal
use Rattle.sheet.proofs.make.places_of.Goals.{then-is_blocked, else-is_blocked}

pub loop-place-init : goal.loop-place-init
loop-place-init c =
    (omega (arith, c.all_free-places.ensures.size), λ k. ap (λ f. f k) c.all_free-places.ensures.shut ∙ sym (and_left (ltb k 0) _ (le-ltb k 0 (omega arith))))

pub loop-place-preserved : goal.loop-place-preserved
loop-place-preserved c =
    let B = blocked c.args.cells.now in
    let i = c.loop-place.place in
    let Kept : Places → Type 0 = λ p. (size_in p ≡ length c.args.cells.now) × ((k : ℕ) → shut_in p k ≡ (ltb k (i + 1) && B k)) in
    elim c.if-is_blocked.branch [
      | then-is_blocked w ↦
          let here : B i ≡ true = sym c.is_blocked.ensures ∙ w.if-is_blocked.true in
          subst Kept (sym w.places-is) (
            w.shut.ensures.size-kept ∙ c.loop-place.invariant.0,
            shut_at B i c.loop-place.places (omega (arith, c.loop-place.invariant.0)) c.loop-place.invariant.1 w.shut.new.self w.shut.result w.shut.ensures here,
          )
      | else-is_blocked w ↦
          let here : B i ≡ false = sym c.is_blocked.ensures ∙ w.if-is_blocked.false in
          subst Kept (sym w.places-is) (c.loop-place.invariant.0, λ k. c.loop-place.invariant.1 k ∙ none_at B i here k)
    ]
