pub mod Fronts
pub mod Searching
