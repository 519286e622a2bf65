pub mod Scanning
pub mod Tokens
