pub mod Sigma
pub mod Memo
pub mod Steps
pub mod Pairs
pub mod Reached
pub mod Instances
