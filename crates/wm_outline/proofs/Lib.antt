pub mod Least
pub mod Looks
pub mod Tops
pub mod Outlines
