pub mod Outside
pub mod Failing
pub mod MemFiles
pub mod MemSink
pub mod Stops
