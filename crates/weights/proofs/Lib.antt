pub mod Heavies
pub mod SomeOver
