pub mod Summary
pub mod Allowed
