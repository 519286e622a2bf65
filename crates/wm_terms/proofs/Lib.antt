pub mod Peeking
pub mod Numbers
pub mod Listing
pub mod Texts
