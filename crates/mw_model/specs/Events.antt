-- Theories, and what each event does to them.
pub mod Obligation
pub mod Expansion
pub mod Admission
pub mod Evaluation
pub mod Theory
pub mod Checking
pub mod Refusal
pub mod Writing
pub mod Fate
pub mod Demand
