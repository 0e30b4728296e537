pub mod Each
pub mod Mono
pub mod Bridge
pub mod Putting
pub mod Backs
pub mod Scoping
pub mod Held
mod Rows
