pub mod Closed
pub mod Dead
pub mod Stall
