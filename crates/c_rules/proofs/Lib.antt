pub mod Sets
pub mod Counting
