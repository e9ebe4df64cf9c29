-- What all definitions share: the places of a ground, which of them are free, and the ways present.
--   Land        a number of places, which are free, and the price of the way of each pair
--   ways        the ways present between places of the land
--   Terrain     a number of places, and the ways of each set of shut places
--   land_at     the land that a terrain is where the set s is shut
--   terrain_of  the terrain of a ground
--   land_of     the land that a ground is now
use Rattle.std.specs.Prelude.{ℕ, Bool, cond, ◌&&◌, None, nat_lt}
use Rattle.cost.specs.declared.Cost.{Ghosts as Costs}
use Rattle.ground.specs.declared.Ground.{Ghosts as Grounds}
use Rattle.ground.specs.Marks.{free_under}
use Rattle.hierarchy.specs.Kinds.{Kind, kind_of, Price}

pub record Land (K : Kind) : Type 0 where
  pub size : ℕ
  pub free : ℕ → Bool
  pub way : ℕ → ℕ → Price K

abbrev pub on : {K : Kind} → Land K → ℕ → Bool
on land a = nat_lt a land.size

abbrev pub ways : {K : Kind} → Land K → ℕ → ℕ → Price K
ways land a b = cond (on land a && on land b) (land.way a b) None

-- a ground apart from what is shut
pub record Terrain (K : Kind) : Type 0 where
  pub size : ℕ
  pub chart : (ℕ → Bool) → ℕ → ℕ → Price K

abbrev pub land_at : {K : Kind} → Terrain K → (ℕ → Bool) → Land K
land_at terrain s = record { size = terrain.size; free = free_under terrain.size s; way = terrain.chart s }

abbrev pub terrain_of : {G C : Type 0} → (k : Costs C) → Grounds G C → G → Terrain (kind_of k)
terrain_of k m g = record { size = m.size g; chart = m.chart g }

abbrev pub land_of : {G C : Type 0} → (k : Costs C) → Grounds G C → G → Land (kind_of k)
land_of k m g = land_at (terrain_of k m g) (m.shuts g)
