pub mod Laying
pub mod Listing
pub mod Standing
