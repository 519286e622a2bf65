pub mod Longest
pub mod Line
