pub mod Joins
pub mod Tests
