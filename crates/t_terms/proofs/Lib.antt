mod ProgramRows
pub mod Blocks
pub mod BodyWalks
pub mod Fitting
pub mod Items
