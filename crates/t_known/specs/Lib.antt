pub mod ReadMismatch
pub mod Refusals
pub mod Fitted
pub mod Known
pub mod Labels
pub mod Marks
pub mod Parts
pub mod Tells
