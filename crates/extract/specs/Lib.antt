pub mod Rising
pub mod Output
pub mod Answers
