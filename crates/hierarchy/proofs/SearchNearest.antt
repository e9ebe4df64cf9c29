-- Shown: the place that a search settles next waits, and no place that waits is reached at less.
use Rattle.std.proofs.Common.{◌≡◌, ℕ, zero, suc, ◌<◌, true, false, ◌&&◌, is_some, Some, None, Option, ap, subst, ⊎_elim, arith}
use Rattle.std.proofs.lemmas.Bool.{both_ways, cond_both, and_parts, and_from, and_cases, not-true, not_from_false}
use Rattle.hierarchy.specs.Kinds.{Kind, Price, cheaper}
use Rattle.hierarchy.specs.Searches.{Front, waits, nearer, nearest}
use Rattle.hierarchy.proofs.Prices.{Le, le_refl, le_trans, not-cheaper, cheaper-le}
use Rattle.hierarchy.proofs.SearchCounts.{each_more}

module _ {K : Kind} (front : Front K) where
  abbrev pub Waits : ℕ → Type 0
  Waits x = waits front x ≡ true

  pub waits_since : (y : ℕ) (c : K.C) → front.reached y ≡ Some c → front.settled y ≡ false → Waits y
  waits_since y c e h = and_from (is_some (front.reached y)) _ (ap is_some e) (not_from_false (front.settled y) h)

  pub waits_new : (y : ℕ) → Waits y → front.settled y ≡ false
  waits_new y h = not-true _ (and_parts (is_some (front.reached y)) _ h).1

  abbrev First : ℕ → ℕ → Type 0
  First v y = Waits y → Le K (front.reached v) (front.reached y)

  abbrev pub Nearest : ℕ → Option ℕ → Type 0
  Nearest k None = (y : ℕ) → y < k → waits front y ≡ false
  Nearest k (Some v) = (v < k) × Waits v × ((y : ℕ) → y < k → Waits y → Le K (front.reached v) (front.reached y))

  -- what the place to settle next costs, none where nothing waits
  abbrev pub next_cost : Option ℕ → Price K
  next_cost None = None
  next_cost (Some v) = front.reached v

  nearer_is : (k : ℕ) (o : Option ℕ) → Nearest k o → Nearest (suc k) (nearer front o k)
  nearer_is k None none =
      cond_both (waits front k) (Some k) None (Nearest (suc k))
      (λ e. (omega arith, e, each_more (First k) k (λ y h u. absurd (both_ways _ (none y h) u)) (λ u. le_refl)))
      (λ e. each_more (λ y. waits front y ≡ false) k none e)
  nearer_is k (Some v) (h, u, first) =
      cond_both (waits front k && cheaper K (front.reached k) (front.reached v)) (Some k) (Some v) (Nearest (suc k))
      (λ e.
      let p = and_parts (waits front k) _ e in
      (omega arith, p.0, each_more (First k) k (λ y l t. le_trans (cheaper-le _ _ p.1) (first y l t)) (λ t. le_refl)))
      (λ e. (omega arith, u, each_more (First v) k first (λ t. ⊎_elim (λ n. absurd (both_ways _ n t)) (λ n. not-cheaper n) (and_cases (waits front k) _ e))))

  pub nearest_is : (k : ℕ) → Nearest k (nearest front k)
  nearest_is zero = λ y h. absurd (omega arith)
  nearest_is (suc k) = nearer_is k (nearest front k) (nearest_is k)

  pub nearest_at : (k : ℕ) (o : Option ℕ) → nearest front k ≡ o → Nearest k o
  nearest_at k o e = subst (Nearest k) e (nearest_is k)
