pub mod Fire
pub mod Look
pub mod Search
