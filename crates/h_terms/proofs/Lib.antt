pub mod Sound
pub mod Each
pub mod Mono
mod Rows
pub mod Parts
