pub mod Orders
pub mod Taking
pub mod Folds
pub mod Running
