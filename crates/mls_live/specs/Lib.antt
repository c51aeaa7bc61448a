pub mod Ending
pub mod Running
pub mod Words
pub mod Doors
pub mod Group
pub mod Answers
pub mod Tasks
pub mod Ideal
