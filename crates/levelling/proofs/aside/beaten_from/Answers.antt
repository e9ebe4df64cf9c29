use Rattle.std.proofs.Common.{rules, ◌≡◌, false, get_or, subst, arith}
use Rattle.hierarchy.specs.Books.{link_among}
use Rattle.frontier.specs.Fronts.{blank}
use Rattle.levelling.specs.Meaning.{meaning}
use Rattle.levelling.specs.Reach.{ReachedWithin}
use Rattle.levelling.specs.Beaten.{beaten}
use Rattle.levelling.proofs.Beaten.{beaten_decides}
use Rattle.levelling.proofs.Filling.{filled}
use Rattle.levelling.proofs.FitsRecords.{records_fit}
use Rattle.levelling.proofs.Linked.{link_beyond}
use Rattle.levelling.proofs.aside.beaten_from.Goals as goal

pub records_within-records-requires : goal.records_within-records-requires
records_within-records-requires g c =
    let links = c.args.links.now in
    (records_fit _ _ g.met.C.Cost.narrow g.met.C.Cost.small, (links.few, (c.requires, link_beyond links.size (meaning g.C.Cost links.book.now))))

pub returns : goal.returns
returns g c b h =
    let k = g.C.Cost in
    let links = c.args.links.now in
    let step = link_among links.size (meaning k links.book.now) in
    let records = c.records_within-records.result in
    let told = subst (λ (bound : g.row.C.Denot). ReachedWithin k step links.size c.args.from bound records) c.over.ensures c.records_within-records.ensures in
    beaten_decides k step c.args.from b _ (told b h) _
    (filled _ _ (λ x m. m ≡ beaten k (step c.args.from x) (get_or records x (blank k))) (λ i y q called. search rules) _ 256 c.from_fn.ensures.items b false (omega (arith, links.few)))
