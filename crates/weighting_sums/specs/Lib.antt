pub mod Weighting
pub mod Tests
pub mod Allowed
pub mod Walk
