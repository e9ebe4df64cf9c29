use Rattle.levelling.specs.Meaning.{meaning}
use Rattle.levelling.proofs.Needing.{open_need, left_need}
use Rattle.levelling.proofs.visit.Visit.needs_from.Goals as goal

pub returns-in-None : goal.returns-in-None
returns-in-None g c =
    let self = c.args.self.now in
    open_need g.C.Cost self.links.size (meaning g.C.Cost self.links.book.now) self.lower self.middle c.args.first self.bounded c.requires.near
    c.args.near.now c.open_pairs-candidates.result c.requires.marked c.open_pairs-candidates.ensures c.in-None.ensures

pub returns-in-Some : goal.returns-in-Some
returns-in-Some g c =
    let self = c.args.self.now in
    left_need g.C.Cost self.links.size (meaning g.C.Cost self.links.book.now) self.lower self.middle c.args.first self.bounded c.requires.near
    c.args.near.now c.open_pairs-candidates.result c.requires.marked c.open_pairs-candidates.ensures c.in-Some.bound _ c.in-Some.ensures c.beyond_detours.ensures
