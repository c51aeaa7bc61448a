pub mod Faults
pub mod Hearing
pub mod Pairs
pub mod Groups
