pub mod Locking
pub mod Freezing
