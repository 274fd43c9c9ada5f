pub mod Orders
pub mod Walks
pub mod Places
pub mod Copies
