-- Shown: a search ends sound, where the place sought is settled or nothing waits.
use Rattle.std.proofs.Common.{◌≡◌, ℕ, zero, suc, ◌+◌, ◌<◌, ◌≤◌, true, ◌⊎◌, Some, None, Option, refl, inl, inr, arith}
use Rattle.std.proofs.lemmas.Bool.{cond_both}
use Rattle.hierarchy.specs.Kinds.{Kind, Price}
use Rattle.hierarchy.specs.Searches.{Front, nearest, settle, search_on, tally}
use Rattle.hierarchy.proofs.SearchCounts.{count_full}
use Rattle.hierarchy.proofs.SearchNearest.{nearest_at}
use Rattle.hierarchy.proofs.SearchSteps.{Inside, Sound, one_more, settle_sound}

module _ {K : Kind} (step : ℕ → ℕ → Price K) (n a b : ℕ) where
  pub record Ended (front : Front K) : Type 0 where
    pub sound : Sound step n a front
    pub over : (front.settled b ≡ true) ⊎ (nearest front n ≡ None)

  pub search_ends : Inside K step n → b < n → (k : ℕ) (front : Front K) → Sound step n a front → n ≤ tally front n + k → Ended (search_on step n b k front)
  search_ends inside on zero front s h = record { sound = s; over = inl (count_full front.settled n (omega arith) b on) }
  search_ends inside on (suc k) front s h =
      cond_both (front.settled b) front _ Ended (λ e. record { sound = s; over = inl e }) (λ e. go (search_ends inside on k) (nearest front n) refl)
    where
      go : ((f : Front K) → Sound step n a f → n ≤ tally f n + k → Ended (search_on step n b k f)) → (o : Option ℕ) → nearest front n ≡ o →
          Ended (elim o as (λ x. Front K) [ None ↦ front | Some v ↦ search_on step n b k (settle step front v) ])
      go rest None e = record { sound = s; over = inr e }
      go rest (Some v) e =
          let near = nearest_at front n (Some v) e in
          rest (settle step front v) (settle_sound step n a inside front s v near) (omega (arith, one_more step front n v near.0 near.1))
