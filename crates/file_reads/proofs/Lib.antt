pub mod Steps
pub mod Inputs
pub mod Ends
pub mod Endings
