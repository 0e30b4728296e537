mod DataRows
mod TextRows
pub mod Complete
pub mod Filling
pub mod Instance
pub mod ItemLaws
pub mod Nested
pub mod TableLines
pub mod TableRows
pub mod TextExact
pub mod TokenLaws
pub mod Worked
pub mod Exact
pub mod Finding
pub mod Keeping
mod First
mod Rows
