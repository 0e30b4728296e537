pub mod Sizes
pub mod Turns
pub mod Fit
pub mod Places
pub mod Allowed
pub mod Measures
