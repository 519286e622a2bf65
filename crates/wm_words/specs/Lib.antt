pub mod Parse
pub mod Values
pub mod Words
