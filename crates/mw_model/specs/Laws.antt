-- Words that only laws and code use: no promise of the program speaks of them.
pub mod Ordinal
pub mod Descent
pub mod CallDepth
pub mod Rules
pub mod RulesInduction
pub mod Rewriting
pub mod AxiomsText
pub mod BuiltInText
pub mod BuiltInReading
pub mod Lines
