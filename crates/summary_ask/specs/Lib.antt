pub mod Ask
pub mod Allowed
pub mod Walk
