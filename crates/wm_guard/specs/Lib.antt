pub mod Access
pub mod Barring
pub mod Orders
