pub mod Blocks
pub mod Prints
pub mod Words
