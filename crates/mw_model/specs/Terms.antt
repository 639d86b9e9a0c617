-- Objects, terms and formulas.
pub mod Object
pub mod Term
pub mod Reading
pub mod Substitution
pub mod Same
