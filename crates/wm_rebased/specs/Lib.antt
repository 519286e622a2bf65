pub mod Rebasing
