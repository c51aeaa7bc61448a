pub mod Recut
pub mod Reads
pub mod Opening
