mod Forms
mod Rests
mod Ends
mod NextCases
