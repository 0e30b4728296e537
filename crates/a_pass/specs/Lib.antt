pub mod Emits
pub mod Scope
