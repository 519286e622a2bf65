pub mod Shown
pub mod Points
