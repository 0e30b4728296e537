pub mod HighParts
pub mod Parts
