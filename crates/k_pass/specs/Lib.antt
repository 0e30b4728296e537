pub mod Emit
pub mod Machine
pub mod Converted
