pub mod Writing
pub mod Rows
pub mod Safety
pub mod Examples
pub mod EventsText
pub mod EventReading
pub mod EventFaults
