use Rattle.std.proofs.Common.{◌≡◌, [], ◌++◌, length, drop, ap, ◌∙◌, arith}
use Rattle.std.proofs.lemmas.List.{get_or_default}
use Rattle.frontier.specs.Fronts.{blank}
use Rattle.routing.specs.Placed.{places_of}
use Rattle.routing.proofs.routes.Query.hand_over.Goals as goal

pub returns : goal.returns
returns g c =
    let places = c.places-places.result.now in
    let same : places ≡ places_of c.args.laid.now = c.places-places.ensures.places in (
      omega (arith, ap length same),
      λ i. record {
        cost = (get_or_default c.args.table.now c.args.self.now.to c.index-table-self.result (blank g.C.Cost) (omega arith) i).cost;
        tally = c.tally.ensures [] i;
        length = length (same i);
      },
      λ i. (c.copy_from_slice.ensures.after ∙ same) i ++ drop (length (same i)) c.args.list.now,
    )
