pub mod Wires
pub mod Codes
