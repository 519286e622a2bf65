pub mod Nones
pub mod Shapes
pub mod Fitted
pub mod Written
pub mod Placed
pub mod Filled
pub mod Given
