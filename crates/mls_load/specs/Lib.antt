pub mod Words
pub mod Refusals
pub mod Inputs
pub mod Tapes
