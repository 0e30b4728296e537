pub mod Bounds
pub mod Coded
pub mod Composing
pub mod Runtime
