pub mod Tests
pub mod Allowed
pub mod Place
pub mod Transition
