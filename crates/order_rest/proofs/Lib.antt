pub mod Steps
pub mod Fits
pub mod Exactly
pub mod Parts
pub mod Meaning
