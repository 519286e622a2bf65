pub mod Points
pub mod Recorded
