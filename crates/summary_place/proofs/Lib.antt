pub mod Steps
pub mod Peaks
pub mod Words
pub mod Running
pub mod Border
pub mod Firing
