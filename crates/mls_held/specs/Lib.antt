pub mod Unnamed
pub mod Begun
