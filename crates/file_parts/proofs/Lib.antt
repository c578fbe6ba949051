pub mod Line
pub mod Buffer
