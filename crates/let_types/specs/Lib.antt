pub mod Closed
pub mod Hoisted
pub mod Known
pub mod KnownRead
pub mod Laws
pub mod Names
pub mod Parts
pub mod TypeTexts
