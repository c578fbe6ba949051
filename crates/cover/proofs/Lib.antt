pub mod Covered
pub mod Meaning
pub mod Exactly
pub mod Promise
pub mod Marks
