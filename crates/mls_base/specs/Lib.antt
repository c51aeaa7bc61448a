pub mod Shapes
pub mod Ranges
pub mod Told
pub mod Memory
pub mod Calls
pub mod Clocks
pub mod Partitions
