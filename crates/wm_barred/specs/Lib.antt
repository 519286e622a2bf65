pub mod Alone
pub mod Views
