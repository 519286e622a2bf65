pub mod Truth
pub mod Period
pub mod Value
pub mod Held
pub mod Key
pub mod Orders
