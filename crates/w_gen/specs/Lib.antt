pub mod Data
pub mod Emit
pub mod Limits
