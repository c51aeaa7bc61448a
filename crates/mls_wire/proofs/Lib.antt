mod Counting
mod Known
pub mod Sent
