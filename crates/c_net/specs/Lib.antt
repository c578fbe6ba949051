pub mod Handed
pub mod Cases
