pub mod Nexts
pub mod Judges
pub mod Moves
