pub mod Rows
pub mod Walks
pub mod KindSums
pub mod Topmost
pub mod Equals
