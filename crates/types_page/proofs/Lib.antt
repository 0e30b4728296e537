mod Binding
mod Fields
mod Lines
mod Ready
mod Rows
mod Stepping
pub mod Marks
pub mod Stacking
