pub mod Views
pub mod Layers
pub mod Redraw
pub mod Appending
