pub mod Accepted
pub mod Plain
pub mod Lines
pub mod Whole
