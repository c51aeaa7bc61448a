pub mod Numbers
pub mod Steps
pub mod Passing
pub mod CellLaws
pub mod StateLaws
pub mod WholeStates
pub mod MarkLaws
pub mod Loops
