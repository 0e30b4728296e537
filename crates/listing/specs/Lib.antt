pub mod Before
pub mod Cut
pub mod CutLaws
pub mod Steps
pub mod Begun
pub mod Listing
pub mod Writing
