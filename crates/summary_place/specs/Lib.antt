pub mod Place
pub mod Slots
pub mod Walk
