pub mod Some
pub mod Whole
pub mod Answers
pub mod Match
pub mod Pairs
