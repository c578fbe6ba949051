pub mod Answer
pub mod Truth
