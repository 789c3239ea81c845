pub mod Between
pub mod Later
pub mod Separate
