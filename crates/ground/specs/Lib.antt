-- docs/GROUNDS.md has these rules in words, each beside its definition.
pub mod Refusals
pub mod Grounds
pub mod Shutting
pub mod Marks
pub mod Earliest
pub mod Counts
