use Rattle.std.proofs.Common.{◌≡◌, ◌<◌, ◌++◌, drop}
use Rattle.hierarchy.specs.Layouts.{lay_chain}
use Rattle.levelling.specs.Meaning.{meaning}
use Rattle.routing.specs.Placed.{places_of}
use Rattle.routing.proofs.layout.DividedBook.lay_chain.Given as goal

-- what is left, after what is laid out, is what was left after the first place
abbrev pub invariant-loop-to : goal.invariant-loop-to
invariant-loop-to g l = record {
  left : places_of l.laid ++ lay_chain (meaning g.C.Cost l.self.book.now) l.from (drop l.to-index l.rest) ≡
      places_of l.initial.laid ++ lay_chain (meaning g.C.Cost l.self.book.now) l.initial.from l.rest;
  near : l.from < 256;
}
