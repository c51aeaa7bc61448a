pub mod CellLines
pub mod Cells
pub mod Whole
pub mod Folds
