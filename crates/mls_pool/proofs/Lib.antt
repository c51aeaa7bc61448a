pub mod Elements
pub mod Going
pub mod Naming
pub mod Pooling
