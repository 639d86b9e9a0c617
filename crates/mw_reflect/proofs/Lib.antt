pub mod TestValues
pub mod ListAnswers
pub mod ClosedAnswers
pub mod TermAnswers
pub mod FormulaAnswers
pub mod SubstitutionAnswers
pub mod CheckerReads
mod SubstituteAnswers
mod RuleAnswers
mod EqualityAnswers
mod BaseEvalAnswers
mod InductionAnswers
mod StepAnswers
mod ProofAnswers
mod Reflects
mod Provable
mod ClaimsTrue
mod EachLevel
mod ReflectionExample
