pub mod Core
pub mod Homes
pub mod Straight
pub mod Code
pub mod Going
pub mod Layout
pub mod Laws
