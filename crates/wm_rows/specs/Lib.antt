pub mod Maps
pub mod Rows
pub mod RowOrder
pub mod Own
pub mod Counts
pub mod Entries
