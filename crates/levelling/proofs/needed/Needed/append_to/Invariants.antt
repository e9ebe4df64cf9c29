use Rattle.std.proofs.Common.{◌≡◌, take}
use Rattle.levelling.specs.Meaning.{meaning}
use Rattle.levelling.specs.Listed.{with_all}
use Rattle.levelling.proofs.needed.Needed.append_to.Given as goal

abbrev pub invariant-loop-shortcut : goal.invariant-loop-shortcut
invariant-loop-shortcut g l = meaning g.C.Cost l.book ≡ with_all (take l.shortcut-index l.self.shortcuts.items) (meaning g.C.Cost l.initial.book)
