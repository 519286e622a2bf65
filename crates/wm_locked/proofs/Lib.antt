pub mod LockedRules
pub mod LockedStands
pub mod LockedBatch
pub mod DraftedLocked
pub mod RenewedStands
pub mod DraftedFrozen
