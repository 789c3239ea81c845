pub mod Contextual
pub mod Constants
pub mod Parts
pub mod Names
pub mod Terms
