pub mod Loop
pub mod Exact
pub mod ExactFields
pub mod ExactValues
pub mod ExactRecords
pub mod Appending
pub mod Making
