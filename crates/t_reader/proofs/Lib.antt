mod Rows
pub mod Agreeing
pub mod Answered
pub mod Blocking
pub mod Dating
pub mod Filing
pub mod Fitting
pub mod Found
pub mod Labelled
pub mod Leveled
pub mod Naming
pub mod Numbering
pub mod Shaped
pub mod Turning
pub mod Valuing
pub mod Well
