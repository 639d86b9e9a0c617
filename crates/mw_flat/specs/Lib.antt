pub mod Walk
pub mod Members
pub mod Verdicts
pub mod Collecting
pub mod Steps
pub mod Going
pub mod Code
pub mod FlatEvents
