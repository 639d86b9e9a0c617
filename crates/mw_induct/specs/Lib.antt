pub mod Conclusions
pub mod Pairs
pub mod Scheme
