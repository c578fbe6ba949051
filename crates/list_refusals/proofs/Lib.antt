pub mod Wholes
pub mod Entries
pub mod Fines
pub mod Exactly
