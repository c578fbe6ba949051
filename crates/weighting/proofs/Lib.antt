pub mod Allowed
pub mod Numbers
pub mod Meaning
pub mod Exactly
pub mod Promise
pub mod Marks
