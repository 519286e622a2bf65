pub mod Saying
pub mod SettlingStands
pub mod KeepSettled
pub mod SettlingBatch
pub mod SettlingKept
pub mod DraftedSettled
pub mod Cutting
pub mod SettledBehind
