pub mod Spots
pub mod Words
pub mod Hoisting
pub mod Types
pub mod Sizes
pub mod PutsBack
mod Clean
mod OneHoisting
pub mod ScopedProps
pub mod Fusing
pub mod Stepping
pub mod Finishing
mod Rows
mod NotRows
