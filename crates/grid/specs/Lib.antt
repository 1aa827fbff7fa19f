pub mod Points
pub mod Cells
pub mod Cases
pub mod Shapes
pub mod Patterns
pub mod Table
pub mod GridTriangles
pub mod EdgeKeys
