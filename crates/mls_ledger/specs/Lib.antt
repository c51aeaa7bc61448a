pub mod MarkSets
pub mod MarkRows
