pub mod File
pub mod Loaded
