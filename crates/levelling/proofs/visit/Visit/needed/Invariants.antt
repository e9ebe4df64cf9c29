use Rattle.std.proofs.Common.{◌≡◌}
use Rattle.hierarchy.specs.Kinds.{kind_of}
use Rattle.hierarchy.specs.Lands.{Land}
use Rattle.levelling.specs.Listed.{listed}
use Rattle.levelling.proofs.Visiting.{Outer, Inner}
use Rattle.levelling.proofs.visit.Visit.needed.Given as goal

abbrev pub invariant-loop-second : goal.invariant-loop-second
invariant-loop-second g l =
    (land : Land (kind_of g.C.Cost)) → land.size ≡ l.self.links.size → Inner g.C.Cost (g.R.Rule.pairs l.rule) l.self land l.first l.second (listed l.needed)

abbrev pub invariant-loop-first : goal.invariant-loop-first
invariant-loop-first g l =
    (land : Land (kind_of g.C.Cost)) → land.size ≡ l.self.links.size → Outer g.C.Cost (g.R.Rule.pairs l.rule) l.self land l.first (listed l.needed)
