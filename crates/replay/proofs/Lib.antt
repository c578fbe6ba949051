pub mod Answers
pub mod Ending
pub mod Meaning
pub mod Marks
