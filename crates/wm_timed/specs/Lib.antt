pub mod Timed
pub mod Left
