pub mod Fits
pub mod Laws
pub mod Lines
pub mod Nesting
pub mod Notation
pub mod Parts
pub mod Tasks
