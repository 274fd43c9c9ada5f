pub mod Joined
pub mod Joining
