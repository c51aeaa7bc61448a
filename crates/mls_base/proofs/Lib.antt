mod Rising
mod Padding
pub mod Ranges
pub mod Sound
pub mod Told
pub mod Spans
