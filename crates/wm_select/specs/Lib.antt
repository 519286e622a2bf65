pub mod Aggregates
pub mod Query
pub mod Counting
pub mod Groups
pub mod Hashes
