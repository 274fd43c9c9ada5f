pub mod Units
pub mod Laws
pub mod Behaving
pub mod Calls
pub mod Codes
