pub mod Standing
pub mod FormTexts
pub mod ScopeTexts
pub mod ProgramTexts
mod Rows
