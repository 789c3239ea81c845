pub mod Product
pub mod Options
pub mod Rows
