mod Closing
mod Each
pub mod Fields
mod Rows
mod Sound
pub mod Weighed
pub mod Lists
