pub mod Disk
pub mod Header
pub mod Opening
pub mod Store
pub mod Writes
