pub mod Bridge
pub mod Grounds
pub mod Losing
pub mod Savepoints
