pub mod LeastKey
pub mod Placing
pub mod Texts
pub mod Wholes
