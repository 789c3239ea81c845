pub mod Definitions
pub mod Notes
