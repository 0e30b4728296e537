pub mod Paths
pub mod Source
pub mod Assembly
pub mod ReadPart
pub mod Laws
