pub mod Keeping
pub mod Last
