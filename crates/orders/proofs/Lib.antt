pub mod Lengths
pub mod Counts
pub mod Weaving
pub mod Sums
pub mod Earliest
pub mod Going
pub mod Running
pub mod Meaning
