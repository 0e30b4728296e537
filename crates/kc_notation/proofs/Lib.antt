pub mod Holding
pub mod Listed
pub mod Pages
mod ClosedRows
pub mod Sheets
mod Texts
pub mod ClosedStepping
pub mod Turns
pub mod ClosedWalking
mod CpsRows
mod CpsStepping
pub mod HeadLines
mod CpsWalking
