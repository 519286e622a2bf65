pub mod Dating
pub mod Depending
pub mod Ended
pub mod LocksHeld
pub mod Marks
pub mod Rolled
pub mod Staying
pub mod TwoPoints
