pub mod Summaries
pub mod Meaning
