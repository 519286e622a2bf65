pub mod Cells
pub mod Order
pub mod Over
pub mod JoinLaws
pub mod Canonical
pub mod Search
