pub mod Climbed
pub mod Divided
pub mod Found
pub mod Placed
pub mod Narrowed
pub mod Routes
