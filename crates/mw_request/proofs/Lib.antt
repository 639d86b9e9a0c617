pub mod ExamplesCommands
pub mod OneDatum
pub mod Faultless
pub mod Subcommands
pub mod Requests
