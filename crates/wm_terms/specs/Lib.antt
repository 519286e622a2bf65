pub mod Cursor
pub mod Telling
