pub mod Entry
pub mod Allowed
