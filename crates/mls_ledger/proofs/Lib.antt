pub mod Bits
pub mod AfterCalls
pub mod Rows
pub mod TakingMarks
