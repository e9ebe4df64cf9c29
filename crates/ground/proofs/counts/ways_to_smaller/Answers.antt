use Rattle.std.proofs.Common.{ℕ, is_some, ◌∙◌, arith, rules}
use borrow.Author.Tests.{tests}
use Rattle.std.proofs.lemmas.Iterator.{YieldsList-from_range}
use Rattle.std.proofs.lemmas.Iterator.Consumers.{YieldsList-from_filter, count_from_yields_List}
use Rattle.ground.proofs.Counting.{count_below}
use Rattle.ground.proofs.counts.ways_to_smaller.Goals as goal

pub returns : goal.returns
returns g c =
    let p = λ (a : ℕ). is_some (g.G.Ground.chart c.args.ground.now (g.G.Ground.shuts c.args.ground.now) a c.args.place) in
    count_from_yields_List c.filter.result _ c.count.ensures.ran (YieldsList-from_filter _ p (YieldsList-from_range 0 c.args.place c.args.place (cc) (omega arith)) c.filter.ensures.closure (λ x b q k. search (rules, tests)))
    ∙ count_below _ _
