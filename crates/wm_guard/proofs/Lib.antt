pub mod Order
pub mod Alike
pub mod Blocks
pub mod First
