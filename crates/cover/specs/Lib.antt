pub mod Number
pub mod Cover
