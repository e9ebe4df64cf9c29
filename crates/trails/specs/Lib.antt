-- docs/GROUNDS.md has these rules in words, each beside its definition.
pub mod Trails
pub mod TrailLaws
