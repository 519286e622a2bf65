pub mod Committed
pub mod Copying
pub mod Deciding
pub mod Restoring
pub mod Shown
pub mod Telling
