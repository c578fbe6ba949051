pub mod Making
pub mod Showing
pub mod Meaning
