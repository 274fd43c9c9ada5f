pub mod Playing
pub mod Reading
pub mod Trips
pub mod Soundness
pub mod Rigs
