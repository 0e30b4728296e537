pub mod Native
pub mod Made
pub mod Listing
