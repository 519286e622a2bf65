pub mod Points
pub mod Gone
