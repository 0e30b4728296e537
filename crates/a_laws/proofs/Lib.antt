mod Agree
mod Asking
mod CLaws
mod Cells
pub mod Consts
pub mod Data
mod Endings
mod FilledAlike
mod Fits
mod Inside
mod Known
mod Meaning
mod OneAllocating
mod OneValue
mod OneData
mod Posts
mod PutBack
mod Readings
mod Regs
mod Rel
mod Rows
mod Scopes
mod Settling
mod Shown
mod Standing
pub mod Thirds
mod Types
mod Typing
mod Values
