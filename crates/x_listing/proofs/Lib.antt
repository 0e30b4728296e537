mod Rows
pub mod Turns
pub mod Shown
pub mod Sayings
