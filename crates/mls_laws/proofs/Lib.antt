pub mod Places
pub mod Surviving
pub mod Outcomes
pub mod Completing
pub mod Fits
pub mod OneClient
pub mod Table
