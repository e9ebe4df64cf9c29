-- The shortcuts that a visit needs.
--   listed    the shortcuts in their order
--   with_all  a book with all of them appended
use Rattle.std.specs.Prelude.{List, ◌++◌}
use Rattle.hierarchy.specs.declared.Shortcut.{Shortcut}
use Rattle.hierarchy.specs.Kinds.{Kind}
use Rattle.hierarchy.specs.Books.{Book}
use Rattle.levelling.specs.declared.needed.Needed.{Needed}

abbrev pub listed : {C : Type 0} → Needed C → List (Shortcut C)
listed n = n.shortcuts.items

abbrev pub with_all : {K : Kind} → List (Shortcut K.C) → Book K → Book K
with_all l book = record { level = book.level; kept = book.kept; shortcuts = book.shortcuts ++ l }
