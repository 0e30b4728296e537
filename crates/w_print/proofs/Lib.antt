pub mod Digits
pub mod Gather
pub mod Runs
