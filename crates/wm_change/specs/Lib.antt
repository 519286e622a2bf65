pub mod Acting
pub mod Changing
pub mod Inserting
pub mod Moved
