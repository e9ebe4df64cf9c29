-- Arching chains without a place, as walks over three copies of the places, one for each part of such a chain: where it rises,
-- where it stays, and where it falls.
--   Spot         a place with the part of the chain that led to it
--   allowed      what the levels must do at a step from one part to another
--   passes       a step that is allowed and does not come to v
--   layered      the links between the copies
--   some_within  a walk from the rising copy of a to some copy of b costs at most the price
use Rattle.std.specs.Prelude.{ℕ, Bool, false, cond, not, ◌&&◌, ◌||◌, List, ◌++◌, map, Some, None, ◌==◌, nat_lt}
use Rattle.hierarchy.specs.Kinds.{Kind, Price}
use Rattle.hierarchy.specs.Shortest.{below}

-- a place with the part of the chain that led to it
pub data Spot : Type 0 where
  up flat down : ℕ → Spot

abbrev pub place : Spot → ℕ
place (up x) = x
place (flat x) = x
place (down x) = x

abbrev pub same_spot : Spot → Spot → Bool
same_spot (up x) (up y) = x == y
same_spot (up x) (flat y) = false
same_spot (up x) (down y) = false
same_spot (flat x) (up y) = false
same_spot (flat x) (flat y) = x == y
same_spot (flat x) (down y) = false
same_spot (down x) (up y) = false
same_spot (down x) (flat y) = false
same_spot (down x) (down y) = x == y

abbrev pub spots : ℕ → List Spot
spots n = map up (below n) ++ (map flat (below n) ++ map down (below n))

module _ (level : ℕ → ℕ) (top v : ℕ) where
  -- what the levels must do at a step to come into that part
  abbrev pub allowed : Spot → Spot → Bool
  allowed (up x) (up y) = nat_lt (level x) (level y)
  allowed (up x) (flat y) = level x == level y
  allowed (up x) (down y) = nat_lt (level y) (level x)
  allowed (flat x) (up y) = false
  allowed (flat x) (flat y) = level x == level y && level x == top
  allowed (flat x) (down y) = nat_lt (level y) (level x)
  allowed (down x) (up y) = false
  allowed (down x) (flat y) = false
  allowed (down x) (down y) = nat_lt (level y) (level x)

  abbrev pub passes : Spot → Spot → Bool
  passes s t = allowed s t && not (place t == v)

module _ (K : Kind) (link : ℕ → ℕ → Price K) (level : ℕ → ℕ) (top v : ℕ) where
  abbrev pub layered : Spot → Spot → Price K
  layered s t = cond (passes level top v s t) (link (place s) (place t)) None

module _ (K : Kind) where
  abbrev pub within : Price K → Price K → Bool
  within None q = false
  within (Some c) None = false
  within (Some c) (Some d) = not (K.less d c)

  abbrev pub some_within : ℕ → ℕ → Price K → (Spot → Spot → Price K) → Bool
  some_within a b q d = within (d (up a) (up b)) q || (within (d (up a) (flat b)) q || within (d (up a) (down b)) q)
