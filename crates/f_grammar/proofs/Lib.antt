pub mod Complete
pub mod Extent
pub mod Filling
pub mod Instance
pub mod Noding
pub mod Rows
pub mod Typing
pub mod Beginning
pub mod Follows
pub mod Heading
pub mod Keeping
pub mod Operands
pub mod Reaching
pub mod Resuming
pub mod Steps
pub mod Bound
pub mod Closed
mod Decided
pub mod Exact
mod TextRows
