pub mod Splitting
pub mod Uncovered
