pub mod Ways
pub mod Passed
