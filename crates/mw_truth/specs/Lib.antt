pub mod Methods
pub mod Admitted
pub mod Reached
