pub mod Ports
pub mod Memories
pub mod Trials
