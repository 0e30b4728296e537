pub mod Numbers
pub mod Decode
pub mod Machine
pub mod Elf
pub mod Told
pub mod Process
