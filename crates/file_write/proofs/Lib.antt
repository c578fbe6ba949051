pub mod Exactly
pub mod Meaning
pub mod Answers
