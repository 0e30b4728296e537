pub mod Answers
pub mod Texts
pub mod Guests
pub mod Places
