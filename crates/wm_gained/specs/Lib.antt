pub mod Gaining
pub mod Replaying
pub mod Keeping
pub mod Behind
pub mod Merging
