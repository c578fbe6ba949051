pub mod Samples
pub mod Edges
pub mod Promised
