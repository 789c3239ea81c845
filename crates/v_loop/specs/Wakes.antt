pub mod Wakes
pub mod Gathered
