pub mod Reached
pub mod Needed
pub mod Places
pub mod Unmet
