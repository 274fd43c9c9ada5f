pub mod Finding
pub mod Describing
