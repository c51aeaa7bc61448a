pub mod Sums
pub mod Rules
pub mod Steps
pub mod Standing
pub mod ColumnSteps
pub mod SumsAdded
