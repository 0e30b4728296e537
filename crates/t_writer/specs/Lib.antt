pub mod Lexeme
pub mod Written
