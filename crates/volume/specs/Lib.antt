pub mod Blocks
pub mod Borders
pub mod FileKinds
pub mod Files
pub mod Insides
pub mod Kinds
pub mod Volumes
pub mod Crossings
