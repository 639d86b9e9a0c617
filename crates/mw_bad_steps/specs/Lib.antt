pub mod BadStep
pub mod Shown
pub mod Members
pub mod Candidates
pub mod Forms
pub mod Premises
pub mod Cases
