pub mod Having
pub mod SameNames
pub mod IndexLemmas
pub mod Meeting
pub mod Keeping
