-- Which books can be laid out.
--   Divided  every shortcut of the book is divided at a place below 256
use Rattle.levelling.specs.declared.book.Book.{Book}
use Rattle.levelling.specs.Halves.{MiddlesNear}

abbrev pub Divided : {C : Type 0} → Book C → Type 0
Divided book = MiddlesNear book.shortcuts.items
