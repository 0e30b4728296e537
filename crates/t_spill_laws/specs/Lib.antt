pub mod Bound
pub mod Bounded
pub mod Correct
pub mod Laws
pub mod Reach
