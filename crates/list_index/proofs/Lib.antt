pub mod Hashes
pub mod Sums
pub mod Latest
pub mod Linked
pub mod Walks
pub mod Wholly
pub mod Finds
