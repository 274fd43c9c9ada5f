pub mod Reading
pub mod Beginning
pub mod AddingUnits
pub mod AddingWires
