pub mod Designs
pub mod Digits
pub mod Runs
pub mod Rows
