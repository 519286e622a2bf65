pub mod Logged
pub mod Telling
pub mod Laying
pub mod Listing
pub mod Halving
