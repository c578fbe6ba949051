pub mod Fours
pub mod Answers
pub mod Meaning
