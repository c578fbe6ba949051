pub mod Asking
pub mod Meaning
pub mod Exactly
pub mod Marks
