pub mod Connections
pub mod Ending
