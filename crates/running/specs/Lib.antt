pub mod State
pub mod Entry
pub mod Walk
pub mod Cutting
