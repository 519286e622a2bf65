pub mod Nets
pub mod Stretches
