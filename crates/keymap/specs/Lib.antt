pub mod Probe
pub mod Law
pub mod Frees
