pub mod Heads
pub mod Standing
pub mod ClosedWalk
pub mod CpsNotation
pub mod Notation
pub mod CpsWalk
