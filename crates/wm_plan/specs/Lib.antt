pub mod Forks
pub mod Idle
pub mod Planning
pub mod Stands
pub mod Views
