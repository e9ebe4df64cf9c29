use Rattle.std.proofs.Common.{ℕ, Bool, not, cond, ◌∙◌, rules, arith}
use Rattle.std.proofs.lemmas.Iterator.{YieldsList-from_range, YieldsList-from_map}
use Rattle.std.proofs.lemmas.Iterator.Consumers.{sum_from_yields_List, fits_from_yields_list}
use Rattle.ground.proofs.Counting.{ones_below, count_few, count_free}
use Rattle.ground.proofs.counts.free_below.Goals as goal

pub sum-requires-clause-fits : goal.sum-requires-clause-fits
sum-requires-clause-fits g c =
    let p : ℕ → Bool = λ k. not (g.G.Ground.shuts c.args.ground.now k) in
    let n = c.args.end in
    fits_from_yields_list c.map.result _ (YieldsList-from_map _ (λ k. cond (p k) 1 0) (YieldsList-from_range 0 n n (cc) (omega arith)) c.map.ensures.closure (λ x r q k. search rules))
    (omega (arith, ones_below p n, count_few p n))

pub returns : goal.returns
returns g c =
    let p : ℕ → Bool = λ k. not (g.G.Ground.shuts c.args.ground.now k) in
    let n = c.args.end in
    sum_from_yields_List c.map.result _ c.sum.ensures.ran (YieldsList-from_map _ (λ k. cond (p k) 1 0) (YieldsList-from_range 0 n n (cc) (omega arith)) c.map.ensures.closure (λ x r q k. search rules))
    ∙ ones_below p n ∙ count_free _ n
