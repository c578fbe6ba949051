pub mod Frames
pub mod Round
