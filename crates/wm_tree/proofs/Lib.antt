pub mod Paths
pub mod Growing
pub mod Dropping
pub mod Placing
pub mod Shared
