pub mod Hoist
pub mod Back
pub mod Stream
pub mod Walk
pub mod Statements
pub mod Example
