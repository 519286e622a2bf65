pub mod Asked
pub mod Freed
pub mod Rows
