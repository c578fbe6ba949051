pub mod Rule
pub mod Letters
pub mod Rows
pub mod Copies
pub mod Judged
pub mod Meaning
pub mod Pockets
