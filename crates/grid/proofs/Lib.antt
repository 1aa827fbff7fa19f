pub mod Below
pub mod Numbers
pub mod Rows
pub mod Corners
pub mod Patterns
