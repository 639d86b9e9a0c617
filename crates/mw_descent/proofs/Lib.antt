pub mod Ordinals
pub mod Order
pub mod Normal
pub mod Descents
mod Sums
mod Beyond
pub mod Jumps
pub mod Computed
