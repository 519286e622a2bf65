pub mod Compared
pub mod Conflicts
pub mod Differing
pub mod Fits
pub mod History
pub mod Keys
pub mod Locked
