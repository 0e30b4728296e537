pub mod Filling
pub mod Parts
pub mod Scopes
pub mod Tuples
