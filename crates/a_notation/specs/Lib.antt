pub mod Closures
pub mod Types
pub mod Notation
pub mod Wraps
pub mod Scopes
