pub mod Decimal
pub mod Writes
pub mod Apart
pub mod Steps
pub mod Pages
