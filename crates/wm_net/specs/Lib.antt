pub mod Groups
pub mod Listed
pub mod Nets
pub mod Places
pub mod Conflicts
pub mod Counts
pub mod Firsts
