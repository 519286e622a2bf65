pub mod Laid
pub mod Later
