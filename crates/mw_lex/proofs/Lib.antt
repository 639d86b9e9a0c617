pub mod Classes
pub mod Runs
pub mod Lexemes
pub mod Decimals
mod Bytewise
mod RaisedNames
mod Raised
