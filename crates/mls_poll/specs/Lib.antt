pub mod Polls
pub mod Waiting
pub mod MemPolls
pub mod Wholes
pub mod Reads
pub mod Steps
pub mod Streams
pub mod Looks
