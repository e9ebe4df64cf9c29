pub mod Earliest
pub mod Counting
