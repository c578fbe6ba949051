pub mod Refusals
pub mod Targets
pub mod Exactly
pub mod Marks
