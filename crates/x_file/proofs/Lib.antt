pub mod Numbers
pub mod Headers
pub mod Whole
pub mod Words
