pub mod Keys
pub mod Lists
pub mod Reaching
pub mod Stretches
