pub mod Commands
pub mod Headlines
pub mod Logged
pub mod Explained
