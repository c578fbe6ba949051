pub mod Orders
pub mod Search
pub mod Lengths
pub mod Sums
