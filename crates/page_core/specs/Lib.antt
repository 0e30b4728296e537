pub mod Pieces
pub mod Texts
pub mod Names
pub mod Spot
pub mod Page
