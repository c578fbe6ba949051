pub mod Fires
pub mod Lookups
