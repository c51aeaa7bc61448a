pub mod Ends
pub mod Lanes
pub mod Steps
pub mod Openings
pub mod Connections
pub mod Acting
pub mod Short
pub mod Early
