pub mod Grounds
pub mod Outcomes
