pub mod Positions
pub mod Seeks
pub mod Laws
pub mod Frees
pub mod Lookups
