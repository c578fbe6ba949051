pub mod Complement
pub mod Told
pub mod Entry
pub mod Walk
pub mod Held
