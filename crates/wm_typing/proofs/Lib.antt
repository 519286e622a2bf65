pub mod Firsts
pub mod Nones
pub mod ByName
pub mod Typed
