pub mod Shapes
pub mod Places
pub mod Formed
pub mod Meaning
pub mod Exactly
pub mod Marks
pub mod Fits
