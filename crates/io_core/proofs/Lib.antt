pub mod FileMapLemmas
mod Rows
