pub mod Parts
pub mod Printing
pub mod Labelling
pub mod Waiting
pub mod Repeats
pub mod Datum
