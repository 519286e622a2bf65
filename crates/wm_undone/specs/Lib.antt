pub mod Removing
pub mod Restoring
