-- Proofs by the twelve methods, and the test that computes whether something is one.
pub mod Axioms
pub mod Induction
pub mod Proof
pub mod Judgment
