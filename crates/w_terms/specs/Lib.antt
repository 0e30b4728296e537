pub mod Tree
pub mod Read
pub mod Machine
