pub mod Names
pub mod Stored
pub mod Found
pub mod Known
pub mod Alike
