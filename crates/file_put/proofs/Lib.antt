pub mod Appends
pub mod Round
pub mod Twos
pub mod Puts
pub mod Sheets
