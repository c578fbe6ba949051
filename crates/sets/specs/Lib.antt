pub mod Sets
pub mod Allowed
pub mod Answer
