pub mod Kept
pub mod Leveled
pub mod Bools
pub mod Lists
pub mod Numbers
