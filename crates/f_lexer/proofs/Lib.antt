pub mod Exact
pub mod Finding
mod Rows
