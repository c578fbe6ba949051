pub mod Chains
pub mod Refusals
pub mod Words
pub mod Exactly
pub mod LooseExactly
pub mod HeavyExactly
pub mod Marks
