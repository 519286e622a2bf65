pub mod Rising
pub mod Placing
pub mod Joining
pub mod Newest
