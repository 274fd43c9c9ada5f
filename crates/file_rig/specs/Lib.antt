pub mod Faults
pub mod Table
pub mod Adding
pub mod Describing
pub mod Soundness
