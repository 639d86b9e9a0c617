-- What the further commands owe.
pub mod Tautology
pub mod TautologyBook
pub mod Derivation
pub mod DerivationTest
pub mod Transition
pub mod Lowering
pub mod Subproofs
pub mod Slice
pub mod Slicing
pub mod Log
pub mod LogReport
pub mod Flattening
pub mod ExplanationTerms
pub mod ExplanationSteps
pub mod Explanation
pub mod ExplanationBook
