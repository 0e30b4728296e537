pub mod Scan
pub mod Source
