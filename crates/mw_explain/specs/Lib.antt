pub mod TermParts
pub mod FormulaParts
pub mod Extras
pub mod Condition
pub mod RawParts
pub mod Drafts
pub mod OtherVariables
