pub mod Cut
pub mod Found
pub mod Ordered
pub mod Remarked
pub mod Drafted
