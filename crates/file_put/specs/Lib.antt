pub mod Append
pub mod Put
pub mod Sheet
