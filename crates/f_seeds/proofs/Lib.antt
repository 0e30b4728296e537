mod Faultless
mod Joining
mod Meaning
mod Numerals
mod Programs
mod Rows
mod Running
mod Texts
