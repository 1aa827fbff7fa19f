pub mod Crossings
pub mod Sides
pub mod Rings
pub mod Census
pub mod Outward
