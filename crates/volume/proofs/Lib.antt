pub mod Stored
mod Corners
mod Runs
pub mod Exact
