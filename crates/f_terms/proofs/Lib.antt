mod Admitting
mod Closing
mod Decided
mod FaultRows
mod Replacing
mod Rows
mod Sound
mod TextRows
mod Turns
pub mod Celled
pub mod Faulty
pub mod Limited
pub mod NotedNodes
pub mod Occurs
pub mod Parts
pub mod Refusals
pub mod Shapes
pub mod Stacking
pub mod Trees
pub mod TypeOf
