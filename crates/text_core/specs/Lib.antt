pub mod Byte
pub mod Going
pub mod Lexeme
pub mod Refusals
pub mod Shapes
pub mod Table
pub mod Tokens
pub mod Verdicts
