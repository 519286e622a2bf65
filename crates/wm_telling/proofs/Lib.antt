pub mod Beside
pub mod Relisting
pub mod Clashing
pub mod Storing
pub mod Replaying
pub mod Sorting
pub mod Everywhere
pub mod Marking
