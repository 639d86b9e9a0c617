pub mod SigmaObject
pub mod Made
pub mod Path
pub mod CallerLemmas
pub mod PairLists
pub mod FormulaObjects
pub mod Found
pub mod Needed
pub mod Closed
pub mod Among
pub mod Seen
pub mod Comparing
mod TakingUp
