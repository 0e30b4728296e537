pub mod Resolve
pub mod Levels
pub mod Labelled
pub mod Heads
