pub mod Bounding
pub mod Joins
pub mod Meant
pub mod Telling
