pub mod Acting
pub mod Adding
pub mod ChangesWritten
pub mod Counted
pub mod Filled
pub mod Inserting
pub mod MovedRows
pub mod Rowing
