pub mod Links
pub mod Doors
pub mod Sessions
pub mod MemLinks
pub mod MemDoors
