pub mod Binders
pub mod Page
pub mod Walk
pub mod Writing
