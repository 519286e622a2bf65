pub mod Cause
pub mod History
pub mod Moments
pub mod Planned
pub mod Recorded
pub mod Replay
