pub mod Built
pub mod Code
pub mod Enough
pub mod Laws
pub mod ProgramLaws
pub mod Runtime
pub mod Shows
pub mod Translate
