pub mod Reads
pub mod Walk
