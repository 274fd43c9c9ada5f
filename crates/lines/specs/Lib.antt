pub mod Known
pub mod Fields
pub mod UnitLines
pub mod WireLines
pub mod Headers
pub mod Codes
