pub mod Lent
pub mod Views
pub mod Owned
pub mod Feeding
pub mod FeederLends
