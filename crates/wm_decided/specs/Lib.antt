pub mod Keys
pub mod Deciding
pub mod Netted
pub mod Staged
pub mod Counted
