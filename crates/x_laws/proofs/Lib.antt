pub mod Running
pub mod Kept
pub mod Straight
pub mod Whole
pub mod Flow
pub mod Steps
pub mod Calls
pub mod Writes
pub mod Told
pub mod Going
pub mod Begins
pub mod Results
pub mod Laid
mod Rows
