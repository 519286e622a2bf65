pub mod Takes
pub mod Places
pub mod Arguments
pub mod Faults
pub mod Empty
