pub mod Unique
pub mod Passing
pub mod Ending
pub mod Answered
mod Tokens
