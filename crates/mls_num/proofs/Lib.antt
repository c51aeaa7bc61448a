pub mod Division
pub mod Greatest
pub mod Index
pub mod Millionths
pub mod Read
