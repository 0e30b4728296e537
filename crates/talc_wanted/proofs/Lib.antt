pub mod Exact
pub mod Keeping
pub mod Lengths
mod Lines
mod Rows
pub mod Same
mod Taking
pub mod Worked
pub mod SourceAllKinds
pub mod SourceRows
mod SourceTexts
pub mod AssemblyAllKinds
pub mod AssemblyRows
mod AssemblyTexts
