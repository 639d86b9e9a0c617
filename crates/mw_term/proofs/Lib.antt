pub mod NamedBytes
pub mod Marked
mod Entries
mod ListMarks
mod ListLengths
pub mod Symbols
mod PartSet
pub mod Gathered
pub mod FormalList
pub mod Heads
pub mod FunctionNames
mod Gathering
mod HeldBodies
pub mod TermOccurrences
pub mod Watching
mod Reasons
mod Noted
mod Settled
mod Woken
pub mod CallerLemmas
pub mod SubstitutionLists
