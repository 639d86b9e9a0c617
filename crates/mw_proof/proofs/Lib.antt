pub mod StepExact
pub mod ProofMembers
pub mod Gathering
pub mod Collecting
pub mod Deciding
pub mod Holding
