-- Least walks: what they cost, and what holds of them on every ground.
--   distance        the cost of a least walk from a to b, none where there is no walk
--   Distinct        no place stands in the list twice
--   LeastWalksKeep  what holds of the least walks of a land
use Rattle.std.specs.Prelude.{◌≡◌, ℕ, ◌<◌, ◌≤◌, ◌↔◌, List, [], ◌∷◌, length, Some, None, ◌≢◌, nat_eq}
use Rattle.hierarchy.specs.Kinds.{Kind, Price}
use Rattle.hierarchy.specs.Walks.{end, along, Least, Joined}
use Rattle.hierarchy.specs.Shortest.{below}
use Rattle.hierarchy.specs.Lands.{Land, ways}
use Rattle.hierarchy.specs.Chains.{Without}
use Rattle.hierarchy.specs.Deciders.{cheapest}

-- the inner places of a walk are any places of the land
abbrev pub distance : {K : Kind} → Land K → ℕ → ℕ → Price K
distance {K} land = cheapest K nat_eq (ways land) (below land.size)

abbrev pub Distinct : List ℕ → Type 0
Distinct [] = Unit {0}
Distinct (x ∷ l) = Without x l × Distinct l

pub record LeastWalksKeep {K : Kind} (land : Land K) : Type 0 where
  -- between two joined places there is a least walk
  pub exists : (a b : ℕ) → Joined K (ways land) a b → (c : K.C) × Least K (ways land) a b c
  -- the distance is its cost, and none exactly where the places are not joined
  pub computed : (a b : ℕ) (c : K.C) → (distance land a b ≡ Some c) ↔ Least K (ways land) a b c
  pub computed_none : (a b : ℕ) → (distance land a b ≡ None) ↔ (¬ (Joined K (ways land) a b))
  -- a walk that costs what the least walk costs passes no place twice
  pub simple : (a : ℕ) (l : List ℕ) (c : K.C) → Least K (ways land) a (end a l) c → along K (ways land) a l ≡ Some c → Distinct (a ∷ l)
  -- so from a place of the land it has at most as many places as the land
  pub few : (a : ℕ) (l : List ℕ) (c : K.C) → Least K (ways land) a (end a l) c → along K (ways land) a l ≡ Some c → a < land.size → length (a ∷ l) ≤ land.size
  pub not-over : (a b : ℕ) (c : K.C) → Least K (ways land) a b c → c ≢ K.over
