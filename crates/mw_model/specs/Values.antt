-- What functions compute, and which formulas are true.
pub mod Primitive
pub mod Definition
pub mod Value
pub mod Truth
