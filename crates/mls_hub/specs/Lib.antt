pub mod Lanes
pub mod Books
pub mod Connections
pub mod Halls
pub mod Turns
pub mod Accepts
