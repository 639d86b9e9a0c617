pub mod LastTexts
pub mod Answering
pub mod Writing
pub mod Statuses
pub mod Numbers
pub mod Effects
pub mod Checks
