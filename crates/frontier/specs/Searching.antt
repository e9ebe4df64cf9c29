-- What a frontier says of its search.
--   size   the number of places
--   front  how far the search has come
--   Waits  a place of the frontier that waits, or no place
use Rattle.std.specs.Prelude.{ℕ, length, Option}
use Rattle.cost.specs.declared.Cost.{Ghosts as Costs}
use Rattle.hierarchy.specs.Kinds.{kind_of}
use Rattle.hierarchy.specs.Searches.{Front}
use Rattle.frontier.specs.Fronts.{front_of, Waiting}
use Rattle.frontier.specs.declared.Frontier.{Frontier}

module _ {C : Type 0} {N : ℕ} where
  abbrev pub size : Frontier C N → ℕ
  size frontier = length frontier.table.now

  abbrev pub front : (k : Costs C) → Frontier C N → Front (kind_of k)
  front k frontier = front_of k (size frontier) frontier.table.now frontier.waiting

  abbrev pub Waits : Frontier C N → Option ℕ → Type 0
  Waits frontier place = Waiting (size frontier) frontier.waiting place
