pub mod Step
pub mod Known
pub mod Methods
pub mod Basis
pub mod Counted
