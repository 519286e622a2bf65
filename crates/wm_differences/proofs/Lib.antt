pub mod Keeping
pub mod Comparing
pub mod Gathering
pub mod FirstOn
pub mod Onward
pub mod Meant
