pub mod Answers
pub mod Meaning
pub mod Exactly
pub mod Marks
