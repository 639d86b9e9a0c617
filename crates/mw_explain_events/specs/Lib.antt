pub mod Reasons
pub mod Defining
