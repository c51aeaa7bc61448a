pub mod Doorways
pub mod Lines
pub mod Boards
pub mod Settled
pub mod Ends
