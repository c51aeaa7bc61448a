pub mod Exactness
pub mod InputSteps
pub mod Carrying
pub mod Folded
pub mod SaveSteps
pub mod Exported
pub mod Wording
pub mod Gathered
mod PlainLines
pub mod OpenLists
pub mod Resumed
