pub mod Product
pub mod Rows
