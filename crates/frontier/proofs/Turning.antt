-- Shown: each turn of a search settles one place more, so fewer are left.
use Rattle.std.proofs.Common.{◌≡◌, ℕ, suc, ◌-◌, ◌<◌, Some, sym, ap, ◌∙◌, arith}
use Rattle.hierarchy.specs.Kinds.{Kind, Price}
use Rattle.hierarchy.specs.Searches.{Front, nearest, settle, tally}
use Rattle.hierarchy.proofs.SearchCounts.{count_bound}
use Rattle.hierarchy.proofs.SearchNearest.{nearest_at}
use Rattle.hierarchy.proofs.SearchSteps.{one_more}

-- v is settled next, and m is n
module _ {K : Kind} (step : ℕ → ℕ → Price K) (n v : ℕ) (front after : Front K) (near : Some v ≡ nearest front n) (e : after ≡ settle step front v) where
  pub tally_more : tally after n ≡ suc (tally front n)
  tally_more = let at = nearest_at front n (Some v) (sym near) in ap (λ f. tally f n) e ∙ one_more step front n v at.0 at.1

  pub tally_below : tally front n < n
  tally_below = omega (arith, tally_more, count_bound after.settled n)

  pub fewer_left : (m : ℕ) → m ≡ n → m - tally after m < n - tally front n
  fewer_left m same =
      let more : tally after m ≡ suc (tally front n) = ap (tally after) same ∙ tally_more in
      omega (arith, more, same, tally_below)
