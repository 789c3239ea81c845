pub mod Slots
pub mod Course
pub mod Parts
pub mod Call
