-- Shown: the shortcut comes last if there is room, and nothing else changes.
use Rattle.std.proofs.Common.{◌≡◌, true, ltb, length, sym, refl, ◌∙◌, arith}
use Rattle.std.proofs.lemmas.Bool.{cond-true}
use Rattle.std.proofs.lemmas.Bool.Decides.{nat_tests}
use Rattle.levelling.proofs.Appending.{keeps_ways, still_indexed}
use Rattle.levelling.proofs.Writing.{alike}
use Rattle.levelling.proofs.book.Book.append.Goals as goal

pub invariant_of-self-clause-indexed : goal.invariant_of-self-clause-indexed
invariant_of-self-clause-indexed g c =
    rw c.push.ensures.items
    (still_indexed c.args.self.now c.args.shortcut c.enter.new.self _ (rw c.len-number.ensures.value at c.enter.ensures) (rw c.len-number.ensures.value at c.enter-2.ensures))

pub returns-clause-appended : goal.returns-clause-appended
returns-clause-appended g c =
    let book = c.args.self.now in
    let ways = keeps_ways book c.args.shortcut c.enter.new.self _ (rw c.len-number.ensures.value at c.enter.ensures) (rw c.len-number.ensures.value at c.enter-2.ensures) in
    let fits : ltb (length book.shortcuts.items) 2048 ≡ true = grind (arith, nat_tests, c.if-is_full.false, c.is_full.ensures.value, c.is_full.ensures.fits) in
    alike refl ways (c.push.ensures.items ∙ sym (cond-true _ _ _ fits))
