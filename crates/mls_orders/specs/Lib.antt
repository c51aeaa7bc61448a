pub mod Tapes
pub mod OrderFree
pub mod CellLines
