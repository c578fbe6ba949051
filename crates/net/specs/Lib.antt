pub mod Net
pub mod Lent
pub mod Firing
pub mod Letter
pub mod Marks
