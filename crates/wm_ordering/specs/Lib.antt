pub mod Sorting
pub mod Orders
pub mod RowOrder
pub mod Keys
