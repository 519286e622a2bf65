pub mod Looking
pub mod Narrowed
