use Rattle.std.proofs.Common.{◌≡◌, length, ap, ◌∙◌, rules}
use Rattle.hierarchy.specs.Kinds.{kind_of}
use Rattle.hierarchy.specs.Searches.{search_on}
use Rattle.frontier.specs.Searching.{front}
use Rattle.routing.specs.Found.{whole_search}
use Rattle.routing.proofs.Recorded.{all_recorded}
use Rattle.routing.proofs.find.find_in.Goals as goal

pub returns : goal.returns
returns g c =
    let k = g.S.C.Cost in
    let n = length c.args.table.now in
    let b = c.args.goal in
    let step = g.S.Steps.step c.args.graph.now in
    let after = c.settle_until-found.ensures in
    let begun = c.begin-frontier.ensures in
    let whole : front k c.settle_until-found.new.frontier ≡ whole_search k step n c.args.start b =
    after.front ∙ (λ i. search_on {K = kind_of k} step (begun.size i) b (begun.size i) (begun.front i)) in
    record {
      table = all_recorded k _ _ whole c.settle_until-found.new.frontier.table.now c.args.table.now (after.size ∙ begun.size) c.finish.new.self.0 c.finish.ensures _ (search rules);
      found = after.found ∙ ap (λ f. f.settled b) whole;
    }
