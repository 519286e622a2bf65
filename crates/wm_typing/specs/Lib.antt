pub mod Names
pub mod Types
pub mod Columns
pub mod Refusals
pub mod Changing
pub mod Lacking
