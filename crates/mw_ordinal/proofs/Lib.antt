pub mod Compared
pub mod Passed
