pub mod Counting
pub mod Cores
pub mod Standing
pub mod Heads
pub mod Saving
pub mod Waiting
