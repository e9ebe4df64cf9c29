-- Which of two prices is the dearer.
--   at_most         a price is a cost that is at most another
--   dearer          the dearer of two prices
--   reached_within  a place is settled at a cost that is at most a price
use Rattle.std.specs.Prelude.{Bool, false, cond, not, ◌&&◌, ◌||◌, is_some, Some, None, Option}
use Rattle.cost.specs.declared.Cost.{Ghosts as Costs}
use Rattle.hierarchy.specs.declared.SearchRecord.{SearchRecord}

module _ {C : Type 0} (k : Costs C) where
  abbrev pub at_most : Option C → Option C → Bool
  at_most None q = false
  at_most (Some c) None = false
  at_most (Some c) (Some d) = not (k.less d c)

  abbrev pub dearer : Option C → Option C → Option C
  dearer best price = cond (not (is_some price) || at_most price best) best price

  abbrev pub reached_within : SearchRecord C → Option C → Bool
  reached_within known price = known.settled && at_most (Some known.cost) price
