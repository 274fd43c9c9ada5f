pub mod Rules
pub mod Contents
pub mod Designs
pub mod Owning
pub mod Soundness
