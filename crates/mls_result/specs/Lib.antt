pub mod Counted
pub mod Histories
pub mod HistorySums
pub mod Places
pub mod Statuses
pub mod Words
