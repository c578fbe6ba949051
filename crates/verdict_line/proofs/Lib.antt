pub mod Lines
pub mod Meaning
pub mod Sample
pub mod Numbers
pub mod Causes
pub mod Truth
