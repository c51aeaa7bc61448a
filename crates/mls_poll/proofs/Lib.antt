pub mod Had
pub mod Wholes
pub mod Cutting
pub mod Stepping
pub mod Going
