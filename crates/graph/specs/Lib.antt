pub mod Order
pub mod Placing
pub mod Copied
pub mod Found
