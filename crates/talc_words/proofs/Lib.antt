mod Commands
pub mod NumberLemmas
mod Rows
mod Taken
pub mod WordsLemmas
