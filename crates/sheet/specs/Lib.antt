-- docs/GROUNDS.md has these rules in words, each beside its definition.
pub mod Sheets
pub mod SheetLaws
pub mod Steps
