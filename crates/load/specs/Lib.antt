pub mod Loaded
pub mod Filling
pub mod Codes
