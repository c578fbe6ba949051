pub mod Handed
pub mod Meaning
