pub mod Steps
pub mod Complete
pub mod Looks
pub mod Sound
pub mod Rows
pub mod Whole
pub mod Found
