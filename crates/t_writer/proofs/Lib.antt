pub mod Coded
pub mod Filled
pub mod Items
pub mod Placed
pub mod Rendered
mod Rows
pub mod Scopes
pub mod Texts
pub mod WroteBlocks
pub mod WroteCode
pub mod WroteData
pub mod WroteProgram
pub mod WroteTypes
