pub mod Locks
pub mod Views
pub mod Columns
pub mod Rows
pub mod Given
pub mod Conflicts
pub mod Differences
pub mod History
