pub mod Added
pub mod Folding
pub mod Kept
pub mod Words
