pub mod Meaning
pub mod Edges
pub mod Promises
