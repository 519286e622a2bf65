pub mod Sides
pub mod Telling
