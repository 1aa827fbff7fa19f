pub mod Rises
pub mod Tables
pub mod Reading
