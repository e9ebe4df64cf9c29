pub mod Renewals
pub mod Spots
pub mod Beginning
pub mod Nearing
pub mod Settling
pub mod Finishing
pub mod Tallying
pub mod Turning
