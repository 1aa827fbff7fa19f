pub mod Text
pub mod Lines
pub mod Answers
pub mod Whole
