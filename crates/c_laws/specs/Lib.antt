pub mod Row
pub mod Laws
pub mod Walks
