mod Grown
mod Spelled
mod Standing
pub mod Listed
mod Rows
pub mod Joined
pub mod Lines
mod PageRows
