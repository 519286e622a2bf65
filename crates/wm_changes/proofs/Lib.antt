pub mod Placed
pub mod Putting
pub mod Dropping
pub mod DroppingAll
