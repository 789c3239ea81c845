pub mod Outputs
pub mod Spelled
