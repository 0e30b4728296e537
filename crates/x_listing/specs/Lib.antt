pub mod Text
pub mod Words
pub mod Remarks
pub mod Lines
pub mod Notes
pub mod Read
pub mod Said
