pub mod Naming
pub mod OneMore
pub mod Knowing
mod Placing
mod Stacking
mod Typed
pub mod TypesListed
