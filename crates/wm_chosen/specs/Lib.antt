pub mod Chosen
pub mod Keyed
