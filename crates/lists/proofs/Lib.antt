pub mod Somes
pub mod Wholes
pub mod Answers
pub mod Matches
pub mod Pairs
