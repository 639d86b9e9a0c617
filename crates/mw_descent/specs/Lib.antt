pub mod Shape
pub mod Descending
