pub mod Starts
pub mod Totals
