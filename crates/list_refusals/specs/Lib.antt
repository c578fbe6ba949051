pub mod Given
pub mod Demands
pub mod Fine
