pub mod Answered
pub mod Asked
pub mod AskedMerge
pub mod Calling
pub mod Clear
pub mod Kept
pub mod MergePlans
pub mod Parents
pub mod RefreshPlans
mod NetPlans
