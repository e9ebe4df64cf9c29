-- docs/COSTS.md has these rules in words, each beside its definition.
pub mod Laws
pub mod Ranks
pub mod Seconds
pub mod SecondsLaws
pub mod Worth
pub mod Octiles
pub mod Pell
pub mod OctileLaws
pub mod Roots
