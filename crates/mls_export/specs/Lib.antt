pub mod Files
pub mod Exports
