pub mod Fronts
pub mod Ends
pub mod Meaning
pub mod Filed
pub mod Samples
pub mod Accepted
