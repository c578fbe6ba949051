pub mod Letters
pub mod Sums
pub mod Ways
pub mod Firing
pub mod Marks
pub mod Steps
pub mod Looks
pub mod Finds
