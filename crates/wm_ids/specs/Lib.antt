pub mod Held
pub mod Ids
pub mod Versioned
pub mod Rows
