pub mod Joined
pub mod Keyed
