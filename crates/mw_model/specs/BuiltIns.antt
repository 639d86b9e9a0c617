-- The definitions that every theory begins with.
pub mod BuiltInTerms
pub mod BuiltInRules
pub mod BuiltInProofs
pub mod BuiltIn
