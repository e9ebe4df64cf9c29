-- Shown: one way comes to be kept, and nothing else changes.
use Rattle.std.proofs.Common.{refl, ap, ◌∙◌}
use Rattle.levelling.specs.declared.entry.Entry.TheVariants.{Way}
use Rattle.levelling.proofs.Writing.{alike, kept_in, with_entry_keeps, with_entry_indexed}
use Rattle.levelling.proofs.book.Book.keep_way.Goals as goal

pub invariant_of-self-clause-indexed : goal.invariant_of-self-clause-indexed
invariant_of-self-clause-indexed g c =
    let book = c.args.self.now in
    rw c.set.ensures (with_entry_indexed book.entries c.args.from c.args.to book.shortcuts.items (Way c.args.cost) refl book.indexed)

pub returns : goal.returns
returns g c = alike refl (ap kept_in c.set.ensures ∙ with_entry_keeps c.args.self.now.entries c.args.from c.args.to (Way c.args.cost)) refl
