pub mod Names
pub mod Swept
pub mod Read
pub mod Walked
