pub mod Ends
pub mod Meeting
pub mod Made
pub mod Steps
pub mod Priced
pub mod Counted
