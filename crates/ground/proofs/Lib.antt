pub mod Tests
pub mod Scan
pub mod Fill
pub mod Most
pub mod Stores
pub mod Parts
pub mod Signed
pub mod Room
