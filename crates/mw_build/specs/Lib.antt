pub mod Stacks
pub mod Pieces
pub mod Rules
