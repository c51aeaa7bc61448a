pub mod Places
pub mod Pieces
pub mod Again
pub mod Steady
pub mod Takes
pub mod Theorems
pub mod Within
pub mod Feeding
