pub mod Bounds
pub mod Counts
pub mod Keepers
pub mod Sums
pub mod Whole
