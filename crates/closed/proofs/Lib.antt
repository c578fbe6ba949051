pub mod Deads
pub mod Listed
pub mod Meaning
pub mod Exactly
pub mod Promise
pub mod Marks
