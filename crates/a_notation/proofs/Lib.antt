pub mod TypeTexts
pub mod ValueTexts
pub mod ScopeTexts
pub mod ProgramTexts
mod Rows
