pub mod Entry
pub mod Cut
pub mod Walk
