pub mod Notation
pub mod Values
pub mod Scopes
