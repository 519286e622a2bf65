pub mod Meant
pub mod Meeting
