pub mod Generator
pub mod Draw
pub mod Rows
