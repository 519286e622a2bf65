pub mod Dated
pub mod Fits
pub mod Losing
pub mod Narrowing
pub mod Pointing
pub mod Querying
pub mod Sourcing
