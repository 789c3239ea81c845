pub mod Halves
pub mod Added
pub mod Whole
pub mod Walked
pub mod Fixed
pub mod Names
pub mod Grown
pub mod Onward
