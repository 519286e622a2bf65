pub mod Indexing
pub mod Shown
pub mod Locked
pub mod Soonest
