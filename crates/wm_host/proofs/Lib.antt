pub mod Causes
pub mod Checking
pub mod Crashing
pub mod Drawn
pub mod Ending
pub mod Held
pub mod Hosting
pub mod Loading
pub mod Loads
pub mod Making
pub mod Past
pub mod Saying
pub mod Throughout
pub mod Sounding
pub mod Unread
mod Never
mod NeverScript
