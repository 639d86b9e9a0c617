pub mod Tables
pub mod Parts
pub mod Occurrences
pub mod Bodies
pub mod Marking
pub mod Watching
pub mod Settling
pub mod Packing
