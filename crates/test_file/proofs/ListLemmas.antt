pub mod Numbers
pub mod Behind
pub mod Steps
pub mod Walked
