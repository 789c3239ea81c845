pub mod Lists
pub mod Added
pub mod Whole
