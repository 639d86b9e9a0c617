pub mod Rules
pub mod Proofs
pub mod Answers
pub mod Further
pub mod Methods
pub mod Parts
pub mod Turned
pub mod Unless
