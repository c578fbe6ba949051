pub mod Exactly
pub mod Answers
pub mod Meaning
pub mod Marks
