pub mod Answers
pub mod Few
pub mod Fresh
pub mod Opened
pub mod Past
pub mod Spelled
pub mod Stores
