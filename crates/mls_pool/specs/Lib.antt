pub mod Pools
pub mod Named
pub mod Moving
