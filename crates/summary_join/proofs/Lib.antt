pub mod Joined
pub mod Joining
pub mod Meaning
pub mod Exactly
