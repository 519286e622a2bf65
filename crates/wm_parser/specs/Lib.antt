pub mod Lines
pub mod Parsing
pub mod Parsed
pub mod Tokens
