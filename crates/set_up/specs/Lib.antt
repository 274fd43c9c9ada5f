pub mod Outputs
pub mod Passing
pub mod Causes
pub mod Codes
pub mod Listing
