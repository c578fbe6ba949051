pub mod Join
pub mod Allowed
