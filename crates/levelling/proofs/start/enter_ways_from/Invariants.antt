use Rattle.levelling.specs.Meaning.{meaning}
use Rattle.levelling.specs.Begun.{RowWritten, enters}
use Rattle.levelling.proofs.start.enter_ways_from.Given as goal

abbrev pub invariant-loop-to : goal.invariant-loop-to
invariant-loop-to g l =
    let way = g.G.Ground.chart l.ground (g.G.Ground.shuts l.ground) in
    RowWritten (enters way l.from) l.to l.from (meaning g.G.C.Cost l.initial.book) (meaning g.G.C.Cost l.book)
