pub mod Description
pub mod Command
pub mod Laws
pub mod Reads
pub mod Shown
