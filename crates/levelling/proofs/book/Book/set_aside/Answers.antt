-- Shown: one way comes to be set aside, and nothing else changes.
use Rattle.std.proofs.Common.{length, sym, refl, ap, ◌∙◌, arith}
use Rattle.std.proofs.lemmas.Bool.{eqb-true}
use Rattle.levelling.specs.declared.entry.Entry.TheVariants.{Apart}
use Rattle.levelling.proofs.Numbers.{number_within}
use Rattle.levelling.proofs.Writing.{alike, kept_in, with_entry_keeps, with_entry_indexed}
use Rattle.levelling.proofs.book.Book.set_aside.Goals as goal

pub invariant_of-self-clause-indexed : goal.invariant_of-self-clause-indexed
invariant_of-self-clause-indexed g c =
    let book = c.args.self.now in
    let l = book.shortcuts.items in
    let none = eqb-true (length l) 0 (sym c.is_empty.ensures ∙ c.if-is_empty.true) in
    rw c.set.ensures (with_entry_indexed book.entries c.args.from c.args.to l Apart (omega (arith, number_within l c.args.from c.args.to)) book.indexed)

pub returns-then-is_empty : goal.returns-then-is_empty
returns-then-is_empty g c =
    let none = sym c.is_empty.ensures ∙ c.if-is_empty.true in
    alike refl (ap kept_in c.set.ensures ∙ with_entry_keeps c.args.self.now.entries c.args.from c.args.to Apart ∙ rw none refl) refl
