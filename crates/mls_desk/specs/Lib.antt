pub mod Desks
pub mod Books
pub mod Ends
