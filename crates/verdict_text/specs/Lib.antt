pub mod Verdict
pub mod Back
pub mod Walk
