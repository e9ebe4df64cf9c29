use Rattle.levelling.specs.Meaning.{meaning}
use Rattle.levelling.specs.Begun.{RowsWritten, enters}
use Rattle.levelling.proofs.start.enter_ways.Given as goal

abbrev pub invariant-loop-from : goal.invariant-loop-from
invariant-loop-from g l =
    let way = g.G.Ground.chart l.ground (g.G.Ground.shuts l.ground) in
    RowsWritten (enters way) l.from (g.G.Ground.size l.ground) (meaning g.G.C.Cost l.initial.book) (meaning g.G.C.Cost l.book)
