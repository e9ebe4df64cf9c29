pub mod Cells
pub mod Moves
pub mod Table
pub mod Marking
pub mod SheetWays
