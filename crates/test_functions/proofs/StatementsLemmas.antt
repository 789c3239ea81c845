pub mod Written
pub mod Defaults
pub mod Numbered
