pub mod Freezing
pub mod Thawing
