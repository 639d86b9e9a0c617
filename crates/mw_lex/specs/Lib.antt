pub mod Codes
pub mod Runs
pub mod Forms
pub mod Tokens
