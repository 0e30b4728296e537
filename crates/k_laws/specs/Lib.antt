pub mod Cps
pub mod Translates
pub mod Count
pub mod Annotate
pub mod Annotated
pub mod Sites
pub mod Correct
