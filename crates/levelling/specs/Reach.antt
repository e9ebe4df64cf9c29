-- What a search from a place within a bound tells.
--   Told           a settled place has the cost of a least walk to it; every walk to another costs more than the bound
--   ReachedWithin  so it is with each of the first n places
use Rattle.std.specs.Prelude.{◌≡◌, ℕ, ◌<◌, true, false, List, Option, slice_index_or}
use Rattle.cost.specs.declared.Cost.{Ghosts as Costs}
use Rattle.hierarchy.specs.declared.SearchRecord.{SearchRecord}
use Rattle.hierarchy.specs.Kinds.{kind_of}
use Rattle.hierarchy.specs.Walks.{Walk, Least}
use Rattle.frontier.specs.Fronts.{blank}

module _ {C : Type 0} (k : Costs C) (step : ℕ → ℕ → Option C) where
  abbrev pub Told : ℕ → C → ℕ → SearchRecord C → Type 0
  Told a bound x r =
      (r.settled ≡ true → Least (kind_of k) step a x r.cost) × (r.settled ≡ false → (d : C) → Walk (kind_of k) step a x d → k.less bound d ≡ true)

  abbrev pub ReachedWithin : ℕ → ℕ → C → List (SearchRecord C) → Type 0
  ReachedWithin n a bound table = (x : ℕ) → x < n → Told a bound x (slice_index_or table x (blank k))
