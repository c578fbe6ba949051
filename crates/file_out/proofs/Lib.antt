pub mod Length
pub mod Joined
pub mod Pockets
pub mod Widths
