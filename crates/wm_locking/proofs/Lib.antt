pub mod Fronts
pub mod KeyColumns
pub mod Lines
pub mod LockingRows
pub mod Modes
pub mod Sites
pub mod Unlocking
pub mod Wider
