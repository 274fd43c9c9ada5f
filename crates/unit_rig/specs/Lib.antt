pub mod Own
pub mod Soundness
pub mod Lending
pub mod Pushing
pub mod Rigs
