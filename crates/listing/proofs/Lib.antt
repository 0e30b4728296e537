pub mod Places
mod Moving
mod Accepting
mod Bounds
mod Knowing
mod Counting
mod Finding
mod Passing
mod Moved
mod Staying
mod Steps
mod WorkedRows
