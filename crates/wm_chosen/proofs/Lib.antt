pub mod ChosenRows
pub mod KeyAsked
pub mod KeyAskedAt
pub mod KeyRows
pub mod Listable
pub mod Seen
pub mod Stood
