pub mod Weights
pub mod Narrow
pub mod Wide
pub mod Framed
pub mod Listed
