use Rattle.std.proofs.Common.{◌≡◌, ◌+◌, ◌-◌, ◌++◌, length, get_or, drop}
use Rattle.routing.specs.Found.{chain_in}
use Rattle.routing.proofs.find.chain_back.Given as goal

abbrev pub invariant-loop-step : goal.invariant-loop-step
invariant-loop-step g l =
    let back = chain_in g.C.Cost l.table l.start in
    let places = l.chain.places in
    let first = l.chain.first in
    (back (l.size - l._step) (get_or places first 0) ++ drop (first + 1) places ≡ back l.size l.goal)
    × (first + l._step ≡ 256) × (length places ≡ 257)
