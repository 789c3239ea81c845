pub mod Reads
pub mod Wakes
pub mod Turns
pub mod Unrolled
pub mod Steps
