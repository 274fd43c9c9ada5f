pub mod Worked
pub mod Reading
