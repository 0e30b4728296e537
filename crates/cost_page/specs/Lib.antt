pub mod Places
pub mod Page
pub mod Laws
