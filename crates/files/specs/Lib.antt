pub mod Positions
pub mod Reading
pub mod Heading
