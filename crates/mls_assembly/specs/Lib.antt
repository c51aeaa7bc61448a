pub mod Shares
pub mod Pendings
pub mod KeyShares
pub mod Held
pub mod Offered
pub mod Lent
pub mod Saved
pub mod EntryLists
