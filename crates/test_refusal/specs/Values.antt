pub mod Literals
pub mod Notes
