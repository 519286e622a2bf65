pub mod Arguments
pub mod Clauses
