pub mod Step
pub mod Members
pub mod Gathered
pub mod Judging
pub mod Judgments
pub mod Rewritten
