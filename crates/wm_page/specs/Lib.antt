pub mod Batch
pub mod Cause
pub mod Entries
pub mod Fields
