pub mod More
pub mod Whole
