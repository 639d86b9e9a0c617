pub mod Answers
pub mod Truths
pub mod Names
