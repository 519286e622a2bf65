pub mod Sought
pub mod Indexed
pub mod Kinds
pub mod Hists
