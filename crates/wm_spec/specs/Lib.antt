pub mod Records
pub mod Lists
pub mod Stretches
pub mod Operands
pub mod Conditions
pub mod Expressions
