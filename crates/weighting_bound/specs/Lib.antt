pub mod Bound
pub mod Allowed
