pub mod Elements
pub mod Naming
pub mod Saving
pub mod Taking
pub mod Closing
