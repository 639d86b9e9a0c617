pub mod Admitted
pub mod Entries
pub mod Rows
pub mod Defining
pub mod Texts
