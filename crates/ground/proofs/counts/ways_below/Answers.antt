use Rattle.std.proofs.Common.{ℕ, is_some, ◌∙◌, rules, arith}
use Rattle.std.proofs.lemmas.Iterator.{YieldsList-from_range, YieldsList-from_map}
use Rattle.std.proofs.lemmas.Iterator.Consumers.{sum_from_yields_List, fits_from_yields_list}
use Rattle.ground.specs.Counts.{count}
use Rattle.ground.proofs.Counting.{pairs_below, pairs_few}
use Rattle.ground.proofs.counts.ways_below.Goals as goal

pub sum-requires-clause-fits : goal.sum-requires-clause-fits
sum-requires-clause-fits g c =
    let p = λ (a k : ℕ). is_some (g.G.Ground.chart c.args.ground.now (g.G.Ground.shuts c.args.ground.now) a k) in
    let n = c.args.end in
    fits_from_yields_list c.map.result _ (YieldsList-from_map _ (λ k. count (λ a. p a k) k) (YieldsList-from_range 0 n n (cc) (omega arith)) c.map.ensures.closure (λ x r q k. search rules))
    (omega (arith, pairs_below p n, pairs_few p 256 n (omega arith)))

pub returns : goal.returns
returns g c =
    let p = λ (a k : ℕ). is_some (g.G.Ground.chart c.args.ground.now (g.G.Ground.shuts c.args.ground.now) a k) in
    let n = c.args.end in
    sum_from_yields_List c.map.result _ c.sum.ensures.ran (YieldsList-from_map _ (λ k. count (λ a. p a k) k) (YieldsList-from_range 0 n n (cc) (omega arith)) c.map.ensures.closure (λ x r q k. search rules))
    ∙ pairs_below p _
