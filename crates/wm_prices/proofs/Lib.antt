pub mod Beside
pub mod Heads
pub mod Batch
pub mod Gone
pub mod Unlocked
pub mod Marks
pub mod Spending
