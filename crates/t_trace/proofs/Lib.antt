pub mod Rendered
mod Rows
