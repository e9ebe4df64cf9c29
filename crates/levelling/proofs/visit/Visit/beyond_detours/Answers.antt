use Rattle.std.proofs.Common.{rules, ◌≡◌, ◌+◌, false, get_or, arith}
use Rattle.frontier.specs.Fronts.{blank}
use Rattle.levelling.specs.Meaning.{meaning}
use Rattle.levelling.specs.Needs.{is_beyond}
use Rattle.levelling.proofs.Filling.{filled}
use Rattle.levelling.proofs.FitsRecords.{records_fit}
use Rattle.levelling.proofs.Linked.{detour_beyond}
use Rattle.levelling.proofs.visit.Visit.beyond_detours.Goals as goal

pub records_within-records-requires : goal.records_within-records-requires
records_within-records-requires g c =
    let self = c.args.self.now in
    let book = meaning g.C.Cost self.links.book.now in (
      records_fit _ _ g.met.C.Cost.narrow g.met.C.Cost.small,
      (self.links.few, (c.requires, detour_beyond self.links.size book book.level (self.lower + 1) self.middle c.args.first)),
    )

pub returns : goal.returns
returns g c b h =
    let k = g.C.Cost in
    let self = c.args.self.now in
    let records = c.records_within-records.result in (
      get_or records b (blank k),
      c.records_within-records.ensures b h,
      filled _ _ (λ x m. m ≡ is_beyond k self.links.size (meaning k self.links.book.now) self.middle c.args.first c.args.candidates.now records x) (λ i y q called. search rules) _ 256
          c.from_fn.ensures.items b false (omega (arith, self.links.few)),
    )
