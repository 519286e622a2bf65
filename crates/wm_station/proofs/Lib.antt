pub mod Overs
pub mod Steps
