mod Counted
pub mod Depth
mod FilePlaces
pub mod Filling
pub mod Fitted
pub mod Noting
pub mod Numbering
pub mod Rising
pub mod Sets
pub mod Tuples
