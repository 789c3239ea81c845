pub mod Founds
pub mod Choices
pub mod Names
pub mod Fixed
