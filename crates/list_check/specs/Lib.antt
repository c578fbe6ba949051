pub mod Given
pub mod Allowed
