pub mod Leaf
pub mod Looks
pub mod Top
